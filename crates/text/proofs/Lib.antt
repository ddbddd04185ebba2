pub mod Characters
pub mod Writing
mod Apart
pub mod Unique
