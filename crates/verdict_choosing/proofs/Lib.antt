pub mod Once
pub mod Exactly
pub mod Meaning
pub mod Earlier
