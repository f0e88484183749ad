pub mod Reading
pub mod Lines
pub mod Going
pub mod Visiting
pub mod Turns
