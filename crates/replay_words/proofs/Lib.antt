pub mod Words
mod Unique
