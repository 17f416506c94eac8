pub mod Keeping
pub mod Calls
pub mod Tapes
pub mod Theorem
