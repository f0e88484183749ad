pub mod Walking
pub mod Visits
pub mod Same
