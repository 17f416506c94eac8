-- Where a session goes on.
pub mod Moves
pub mod Known
