-- The kernel's calls: when one is turned away, and what an accepted one does.
pub mod Calls
