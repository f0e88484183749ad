pub mod View
pub mod Back
pub mod Fits
pub mod Rows
pub mod Same
