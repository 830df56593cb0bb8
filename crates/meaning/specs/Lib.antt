pub mod Bounded
pub mod Worlds
pub mod Orders
pub mod Books
pub mod Agreement
pub mod Chains
pub mod Universal
