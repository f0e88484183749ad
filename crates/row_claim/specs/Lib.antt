pub mod Asking
pub mod Items
pub mod Choices
