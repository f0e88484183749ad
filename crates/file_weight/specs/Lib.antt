pub mod Weigh
pub mod Agrees
pub mod Named
