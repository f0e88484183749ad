pub mod Fuel
pub mod Laws
pub mod Loop
pub mod Model
