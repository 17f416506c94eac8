-- The few notions that every crate shares.
pub mod Choice
pub mod Writing
pub mod Shorter
pub mod Tests
pub mod Tables
