pub mod Opening
pub mod Turns
pub mod Printing
pub mod Writing
