pub mod Reading
pub mod Sharing
pub mod Starting
pub mod Freeing
pub mod Putting
