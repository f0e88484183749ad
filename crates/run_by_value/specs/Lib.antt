pub mod Moved
pub mod Same
