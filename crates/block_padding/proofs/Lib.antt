pub mod Tops
pub mod Told
