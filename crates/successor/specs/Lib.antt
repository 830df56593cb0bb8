pub mod Sets
pub mod Obligations
