pub mod Choosing
pub mod Enumerating
pub mod Ranges
pub mod Running
pub mod Foreseeing
pub mod Taking
pub mod Telling
