pub mod Barring
pub mod Bits
