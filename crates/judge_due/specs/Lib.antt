-- What is due on a tape that is judged piece by piece, as numbers and bytes.
pub mod Telling
pub mod Standing
pub mod Theorem
