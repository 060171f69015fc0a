pub mod Offsets
pub mod Rewriting
