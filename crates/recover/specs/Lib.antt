-- What is left of a damaged tape.
pub mod Salvage
