pub mod Process
pub mod Rows
pub mod Put
pub mod Alive
