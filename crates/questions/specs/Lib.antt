pub mod Bases
pub mod Questions
