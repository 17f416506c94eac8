-- The numbers that 01 and 02 give to things.
pub mod Tables
