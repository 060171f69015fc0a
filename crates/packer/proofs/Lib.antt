pub mod Input
pub mod Claims
pub mod Output
pub mod Reading
