pub mod Shares
pub mod Freeing
pub mod Hands
