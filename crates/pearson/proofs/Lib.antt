pub mod Table
pub mod Values
pub mod Steps
mod Unique
