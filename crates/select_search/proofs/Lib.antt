pub mod Turning
pub mod Joining
pub mod Leaving
pub mod Worked
