pub mod Words
pub mod Row
pub mod Standing
pub mod Claiming
