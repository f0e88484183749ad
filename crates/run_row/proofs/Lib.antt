pub mod Shape
pub mod Totals
pub mod Decides
pub mod Opens
pub mod Moves
