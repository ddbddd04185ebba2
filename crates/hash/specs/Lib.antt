pub mod Digest
pub mod Theorems
