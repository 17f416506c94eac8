pub mod Taking
pub mod Whole
