pub mod Steps
pub mod Files
