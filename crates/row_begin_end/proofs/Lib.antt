pub mod Filling
pub mod Rows
pub mod Standing
pub mod Beginning
