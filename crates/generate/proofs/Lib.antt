pub mod Step
pub mod Marks
pub mod Answers
pub mod Counters
pub mod Reached
pub mod Chunks
mod Loops
mod Parts
pub mod Updates
mod Unique
