pub mod Strays
pub mod Sets
pub mod Books
pub mod Extending
pub mod Rules
pub mod Every
