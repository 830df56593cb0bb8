pub mod Placing
pub mod Opening
pub mod Showing
