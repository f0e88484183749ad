pub mod Digits
pub mod Naming
pub mod Branches
