pub mod Pile
pub mod Table
pub mod Laws
pub mod Same
