pub mod Outcomes
pub mod Between
pub mod Steps
