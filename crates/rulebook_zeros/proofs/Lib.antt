pub mod Most
pub mod Supplied
pub mod Worked
