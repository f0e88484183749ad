pub mod Laying
pub mod Packing
pub mod Places
