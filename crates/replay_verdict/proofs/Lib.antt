mod Line
mod Unique
