pub mod Opened
pub mod Shown
pub mod Calls
pub mod Moves
pub mod Same
pub mod Ends
