pub mod Cards
pub mod Records
pub mod Early
pub mod Cryptograms
pub mod Dressed
pub mod Theorem
