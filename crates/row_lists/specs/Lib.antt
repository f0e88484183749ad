pub mod Lists
pub mod Queues
pub mod Front
pub mod Same
