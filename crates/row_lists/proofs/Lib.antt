pub mod Standing
pub mod Rows
pub mod Events
pub mod Entering
pub mod Waking
pub mod Leaving
pub mod Queues
pub mod Waiting
