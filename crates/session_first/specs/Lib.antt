-- The state after the results of cardholder verification.
pub mod Storing
