-- The state after the last record.
pub mod Storing
