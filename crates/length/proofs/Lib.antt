pub mod Tops
pub mod Codes
pub mod Bounds
mod Unique
