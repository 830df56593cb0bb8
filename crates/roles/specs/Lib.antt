pub mod Told
pub mod Closure
pub mod Laws
pub mod Rounds
pub mod Rows
pub mod Hierarchies
