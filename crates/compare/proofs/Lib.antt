pub mod Costs
pub mod Halves
pub mod Planes
pub mod Lanes
pub mod Bodies
pub mod Answers
pub mod Theorems
mod Unique
