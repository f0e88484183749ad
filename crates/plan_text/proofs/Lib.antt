pub mod Decimals
pub mod Fields
pub mod Ends
pub mod Fronts
