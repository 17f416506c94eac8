-- The verdict of a tape under rules, whatever the rules, and how it is found entry by entry.
pub mod Judged
pub mod Counted
pub mod Zeroed
pub mod Exactly
pub mod Progress
pub mod Summing
