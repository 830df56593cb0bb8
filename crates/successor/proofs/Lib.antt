pub mod Labels
pub mod Propagating
pub mod Skipping
pub mod Obliging
pub mod Emptying
