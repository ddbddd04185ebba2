pub mod Words
pub mod Variants
pub mod Answers
