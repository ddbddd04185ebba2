pub mod Digits
pub mod Reading
pub mod RoundTrip
pub mod Accepted
mod Unique
