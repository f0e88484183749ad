pub mod Laying
pub mod Rows
pub mod Masks
pub mod Mapped
