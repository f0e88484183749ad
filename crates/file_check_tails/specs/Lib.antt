pub mod Tails
pub mod Kinds
pub mod Tests
