pub mod Extra
pub mod Values
pub mod Reading
pub mod Printing
pub mod Pinned
