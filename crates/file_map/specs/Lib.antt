pub mod Map
pub mod MapOf
pub mod Low
pub mod Same
