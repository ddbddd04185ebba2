pub mod Bits
mod Unique
