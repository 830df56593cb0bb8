pub mod Meaning
pub mod Relating
