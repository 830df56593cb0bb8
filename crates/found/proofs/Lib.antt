pub mod Unions
pub mod Reaching
pub mod Leading
pub mod Spreading
pub mod Naming
pub mod Agreeing
