pub mod Learning
pub mod Choosing
