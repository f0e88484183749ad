pub mod Table
pub mod Rows
pub mod Right
pub mod Tokens
pub mod Piles
