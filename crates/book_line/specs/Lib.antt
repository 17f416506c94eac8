-- The judge's line as an entry (02, R-11).
pub mod Lines
