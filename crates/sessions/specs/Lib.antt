-- Whole sessions, whatever the rules.
pub mod Rules
pub mod Session
pub mod Kept
pub mod Stated
pub mod Machine
