pub mod Laid
pub mod Amounts
