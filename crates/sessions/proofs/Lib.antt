-- Laws of sessions, whatever the rules.
pub mod Payloads
pub mod Lists
pub mod Single
pub mod Running
pub mod Reading
pub mod Bound
pub mod Ends
pub mod Sorting
pub mod Trichotomy
pub mod Breaks
pub mod States
pub mod LastEntry
pub mod Leading
pub mod Rows
