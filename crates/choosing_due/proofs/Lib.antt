pub mod Choices
pub mod Earlier
pub mod Theorem
