-- Two editions of the rules: where both go alike, and where a reading by the one stands in the other.
pub mod Editions
pub mod Was
