pub mod Distance
pub mod Lanes
pub mod Theorems
