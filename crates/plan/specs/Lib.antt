pub mod Plans
pub mod Signs
pub mod Forcing
pub mod Meanings
pub mod Building
pub mod Listing
