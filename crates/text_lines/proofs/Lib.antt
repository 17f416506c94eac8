pub mod Ends
pub mod Counting
pub mod Pinned
pub mod ByDigits
