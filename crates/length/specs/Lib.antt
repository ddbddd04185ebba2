pub mod Tops
pub mod Code
pub mod Limits
pub mod Theorems
