pub mod Becoming
pub mod Setting
