-- Procedure bytes: 000, Table I-20.
pub mod Procedure
