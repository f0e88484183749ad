pub mod Loops
pub mod Acts
pub mod Chains
pub mod Frames
pub mod Whole
