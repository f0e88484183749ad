pub mod State
pub mod Same
