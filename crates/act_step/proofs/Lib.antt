pub mod Acts
pub mod Meeting
pub mod Standing
pub mod Undone
pub mod Waking
pub mod Occurring
pub mod First
