pub mod Draft
pub mod Laws
pub mod Words
pub mod Tokens
pub mod Shown
pub mod At
pub mod Kept
pub mod Same
