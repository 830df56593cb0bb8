pub mod Lowered
pub mod Listing
pub mod Filling
pub mod Building
pub mod Forcing
