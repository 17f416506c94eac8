-- The tape (01, "The tape"): numbers as bytes, entries, blocks, and what a tape of blocks reads as.
pub mod Numbers
pub mod Entries
pub mod Blocks
pub mod Tapes
