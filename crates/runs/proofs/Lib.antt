pub mod Searching
pub mod Filing
pub mod Answering
pub mod Classes
pub mod Running
pub mod Rightness
pub mod Refusing
pub mod Examples
