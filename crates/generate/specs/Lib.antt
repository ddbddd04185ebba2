pub mod Feed
pub mod Answer
pub mod Chunks
pub mod Parts
pub mod Theorems
