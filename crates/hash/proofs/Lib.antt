pub mod Making
pub mod Sameness
mod Unique
