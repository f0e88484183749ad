pub mod Code
pub mod Lines
pub mod Order
pub mod Shown
