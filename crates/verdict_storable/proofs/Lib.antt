pub mod Values
pub mod Filling
pub mod Commanding
pub mod Numbers
pub mod Staying
pub mod Payloads
pub mod Theorem
pub mod Recorded
