pub mod Sheets
pub mod Judgements
pub mod Keeping
