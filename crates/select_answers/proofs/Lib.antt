pub mod Values
pub mod Selected
pub mod Entries
pub mod Worked
