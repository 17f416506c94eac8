-- How an entry is appended to a tape: document 01, "The tape".
pub mod Appending
