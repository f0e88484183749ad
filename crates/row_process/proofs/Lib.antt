pub mod Zeros
pub mod Standing
pub mod Holding
pub mod Blocks
