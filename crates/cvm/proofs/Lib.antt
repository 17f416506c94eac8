pub mod Through
pub mod Bounds
