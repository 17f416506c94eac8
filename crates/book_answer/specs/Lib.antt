-- The judge's answer as an entry (02, R-11).
pub mod Answers
