pub mod Entries
pub mod Pinned
