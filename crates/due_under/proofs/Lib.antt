pub mod After
pub mod Following
pub mod Theorem
