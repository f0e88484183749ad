pub mod Wrote
pub mod Laws
