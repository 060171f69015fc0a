pub mod Checks
pub mod OneOf
pub mod Told
