-- The terminal's checks as document 01 has them: what each finds, and the TVR and TSI that follow.
pub mod Bits
pub mod Selection
pub mod Results
