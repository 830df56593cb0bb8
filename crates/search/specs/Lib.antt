pub mod Games
pub mod Nodes
pub mod Loop
