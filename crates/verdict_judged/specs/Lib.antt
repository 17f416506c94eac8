-- The verdict of a tape by the rules of 01, and how it is found entry by entry.
pub mod Judged
pub mod Zeroed
pub mod Exactly
pub mod Progress
