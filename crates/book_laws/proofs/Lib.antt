pub mod Back
pub mod Unique
pub mod Written
pub mod Standing
pub mod Tracking
pub mod Counts
pub mod Theorem
pub mod Pinned
