pub mod Bytes
mod Laws
