pub mod Choice
pub mod Writing
pub mod Shorter
pub mod Cutting
pub mod Tests
pub mod Tables
pub mod Comparing
pub mod Lines
