-- Bytes as text, as the programs read and print it: where lines and words end, and numbers.
pub mod Lines
pub mod Numbers
pub mod Decimal
