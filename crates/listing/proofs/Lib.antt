pub mod Decimals
pub mod Lines
pub mod Walks
pub mod Answers
pub mod Claims
