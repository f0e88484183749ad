pub mod Arrays
pub mod Entities
pub mod Loop
pub mod Answer
