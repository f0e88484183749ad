pub mod Index
pub mod Branches
pub mod Ties
