pub mod Searches
pub mod Known
