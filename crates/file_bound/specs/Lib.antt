pub mod Endable
pub mod Answer
pub mod Same
