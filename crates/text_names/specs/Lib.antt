pub mod Table
pub mod Span
pub mod Rows
pub mod Part
pub mod Once
pub mod Trouble
pub mod First
pub mod Lacking
