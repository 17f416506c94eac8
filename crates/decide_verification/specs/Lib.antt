-- Cardholder verification in a session: whether results are due, how many, and what they set in TVR and TSI.
pub mod Verification
