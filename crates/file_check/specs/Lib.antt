pub mod Check
pub mod Same
