-- The verdict of a tape by the rules with choosing the application (02, R-12), and how it is found entry by entry.
pub mod Judged
pub mod Zeroed
pub mod Exactly
pub mod Progress
