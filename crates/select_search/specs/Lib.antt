-- The search for an application, answer by answer: document 001, 12.3.2, 12.3.3 and 12.4; document 02, R-12.
pub mod Search
pub mod Directory
pub mod Listing
pub mod Final
pub mod Heard
pub mod Turns
pub mod Entries
