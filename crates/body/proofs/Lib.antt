pub mod Laws
pub mod Padded
pub mod Shape
mod Unique
