pub mod Rows
pub mod Founds
