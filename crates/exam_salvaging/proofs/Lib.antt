pub mod Standing
pub mod Listed
pub mod Rebuilt
