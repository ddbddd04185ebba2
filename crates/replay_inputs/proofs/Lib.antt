mod Laws
mod Unique
