pub mod Counts
pub mod Quartile
pub mod Theorems
