pub mod Lost
pub mod Same
