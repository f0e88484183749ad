pub mod Chain
pub mod Handed
