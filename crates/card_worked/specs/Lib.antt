-- That what is seen of an answer counts, and what is not seen does not: worked pairs of sessions.
pub mod Matters
pub mod Dressed
pub mod Theorem
