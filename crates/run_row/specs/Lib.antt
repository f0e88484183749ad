pub mod Handed
pub mod Open
pub mod Call
pub mod Own
pub mod Same
pub mod Ends
