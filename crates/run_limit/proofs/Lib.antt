pub mod Asked
pub mod Aside
pub mod Runs
pub mod Turns
