-- What was filled with zeros, over whole sessions (02, R-6).
pub mod Zeros
pub mod Summing
