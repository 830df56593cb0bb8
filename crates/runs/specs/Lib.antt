pub mod Setups
pub mod Steps
pub mod Runs
pub mod Examples
