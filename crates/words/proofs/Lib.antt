pub mod Each
pub mod Tests
pub mod Zeros
pub mod Xor
pub mod Bytes
pub mod Stores
pub mod Alike
pub mod Claims
