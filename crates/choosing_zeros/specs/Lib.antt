-- What was filled with zeros, over sessions with a selection (02, R-6 and R-12).
pub mod Zeros
pub mod Summing
