pub mod Waiting
pub mod Inside
