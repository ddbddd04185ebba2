pub mod Counts
pub mod Order
pub mod Weight
pub mod Three
pub mod Laws
mod Unique
