pub mod Reading
pub mod Fresh
