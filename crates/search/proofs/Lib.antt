pub mod Fix
pub mod Resume
pub mod Digits
pub mod Steps
pub mod Holders
