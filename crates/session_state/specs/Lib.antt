-- The state of a session, and how the rulebook reads it.
pub mod Reading
pub mod Keeping
pub mod Results
