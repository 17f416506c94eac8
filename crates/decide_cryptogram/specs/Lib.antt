-- Cryptograms, asked for and given, as document 01 has them.
pub mod Cryptograms
