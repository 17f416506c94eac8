-- What is said of whole exchanges: the outcome of a capture, how long an exchange can be, what it moves.
pub mod Outcomes
pub mod Bounds
pub mod Longest
pub mod Moves
pub mod Annex
pub mod Counting
pub mod Cards
