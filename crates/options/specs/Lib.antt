pub mod Options
pub mod Setters
