pub mod Closures
pub mod Rounds
pub mod Filling
pub mod Boxes
