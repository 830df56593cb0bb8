pub mod Tests
pub mod Firsts
pub mod Ranges
pub mod Meanings
pub mod Chains
pub mod Agreement
pub mod Implying
