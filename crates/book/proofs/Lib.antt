pub mod Soundness
pub mod Layouting
pub mod Tiling
pub mod Positions
pub mod Going
