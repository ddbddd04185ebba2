pub mod Table
pub mod Mapping
pub mod Steps
pub mod Theorems
