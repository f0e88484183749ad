pub mod Bins
pub mod Returning
