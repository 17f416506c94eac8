-- The characters of an answer to reset: as data, and where each of them stands.
pub mod Data
pub mod Levels
pub mod Located
