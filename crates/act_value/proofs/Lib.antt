pub mod Prefix
pub mod Values
pub mod Turns
