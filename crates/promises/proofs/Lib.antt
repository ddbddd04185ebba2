pub mod Examples
pub mod Third
pub mod Agree
pub mod Inputs
pub mod Digests
