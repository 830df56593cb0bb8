pub mod Coming
pub mod Fresh
pub mod Histories
pub mod Naming
pub mod Soundness
pub mod Reading
