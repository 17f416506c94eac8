-- What is said of a tape by the entry that was due at its end.
pub mod Stages
