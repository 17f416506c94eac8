-- Laws of cardholder verification, its tables worked out, and what they are stated with.
pub mod Tries
