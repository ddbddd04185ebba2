pub mod Theorems
mod Unique
