pub mod Data
pub mod Reach
