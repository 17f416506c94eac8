-- Laws of the library.
pub mod Appending
pub mod Once
pub mod Resetting
pub mod Standing
