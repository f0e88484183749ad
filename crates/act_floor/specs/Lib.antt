pub mod Acting
pub mod Running
pub mod Floor
pub mod Onward
pub mod Same
pub mod Seeds
