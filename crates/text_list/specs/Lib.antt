pub mod Cells
pub mod Same
