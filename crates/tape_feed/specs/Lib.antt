-- A tape read piece by piece.
pub mod Feeding
