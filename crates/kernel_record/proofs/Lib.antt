pub mod Refusing
pub mod Keeping
