-- Bytes as hexadecimal digits, two to a byte.
pub mod Digits
