pub mod Failures
pub mod Refusal
