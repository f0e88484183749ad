pub mod Floor
pub mod Branches
pub mod Steps
