pub mod Filled
pub mod Words
