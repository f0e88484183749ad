pub mod Begins
pub mod Laws
