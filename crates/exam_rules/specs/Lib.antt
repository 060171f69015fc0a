pub mod File
pub mod Reading
pub mod Numbers
pub mod Pieces
pub mod Salvage
pub mod Calls
pub mod Maps
pub mod Inside
