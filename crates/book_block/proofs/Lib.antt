pub mod Faults
pub mod Filling
