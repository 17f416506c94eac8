pub mod Reading
pub mod Turning
pub mod Sessions
pub mod Least
pub mod Order
pub mod Theorem
