pub mod Grant
pub mod Standing
pub mod Wants
