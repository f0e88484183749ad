pub mod Turn
pub mod Same
pub mod Lent
