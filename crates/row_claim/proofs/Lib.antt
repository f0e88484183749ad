pub mod Relations
pub mod Items
pub mod Claims
pub mod Branches
