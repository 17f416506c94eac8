-- A tape judged piece by piece.
pub mod Feeding
