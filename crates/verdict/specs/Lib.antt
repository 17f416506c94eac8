-- What is said of a tape.
pub mod Saying
