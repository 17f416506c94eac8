pub mod Laws
pub mod Choices
