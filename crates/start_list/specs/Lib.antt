-- The terminal's list of applications, in START: document 02, R-12.
pub mod Rows
pub mod Listing
pub mod Valid
