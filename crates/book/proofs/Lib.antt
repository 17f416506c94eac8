pub mod Counting
pub mod Searching
pub mod Refusals
pub mod Stepping
