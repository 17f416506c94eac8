-- Cardholder verification by a list: 003, 7.5, and 02, R-7.
pub mod Lists
pub mod Verified
