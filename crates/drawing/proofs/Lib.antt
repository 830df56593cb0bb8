pub mod Overlays
pub mod Sheets
