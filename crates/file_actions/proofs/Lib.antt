pub mod ByKind
pub mod Bodies
