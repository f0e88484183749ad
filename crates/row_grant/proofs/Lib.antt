pub mod Taking
pub mod Granting
pub mod Facing
