-- How a data object is written: document 01, "Data objects".
pub mod Written
pub mod Writes
