pub mod Weighing
pub mod Adding
