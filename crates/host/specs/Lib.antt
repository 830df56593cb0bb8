pub mod Relations
pub mod Meanings
