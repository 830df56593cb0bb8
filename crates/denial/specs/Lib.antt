pub mod Denials
