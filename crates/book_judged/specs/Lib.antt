-- Entries made from the judge's answers (02, R-11).
pub mod Judging
