pub mod Bounds
pub mod Theorem
