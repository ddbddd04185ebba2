pub mod Final
pub mod Demands
