pub mod Fours
pub mod Places
