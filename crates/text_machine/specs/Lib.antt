pub mod Codes
pub mod Entry
pub mod Sheet
pub mod Machine
pub mod Vectors
