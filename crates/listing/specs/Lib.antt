pub mod Text
pub mod Numbers
pub mod Calls
pub mod Inside
