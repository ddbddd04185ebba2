pub mod Examples
pub mod Demands
