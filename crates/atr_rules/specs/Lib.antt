-- The rules of an answer to reset: their names and numbers, when each is broken, and where.
pub mod Names
pub mod Tests
pub mod Lines
