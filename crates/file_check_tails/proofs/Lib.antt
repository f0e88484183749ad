pub mod Pile
pub mod Branches
pub mod Numbered
