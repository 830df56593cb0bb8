pub mod Registers
pub mod Showing
