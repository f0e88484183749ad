pub mod Halts
pub mod Fitted
pub mod Ran
pub mod Same
