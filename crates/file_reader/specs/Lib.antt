pub mod Same
pub mod Reads
pub mod Records
pub mod Walk
