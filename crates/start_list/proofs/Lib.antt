pub mod InRows
pub mod Lists
pub mod Listed
pub mod Worked
