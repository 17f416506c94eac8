-- A capture taken in pieces.
pub mod Pieces
