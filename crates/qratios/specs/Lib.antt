pub mod Single
pub mod Ratios
pub mod Demands
