-- What holds of every selection: documents 001, 12.3 and 12.4, and 02, R-12.
pub mod Follows
pub mod Cut
pub mod Bounds
pub mod Unasked
pub mod Supported
pub mod Repeated
pub mod Free
pub mod Endless
pub mod Numbered
pub mod Choices
pub mod Runs
