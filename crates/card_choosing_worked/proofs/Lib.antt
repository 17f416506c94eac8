pub mod Cards
pub mod Directory
pub mod Application
pub mod Parting
pub mod Dressed
pub mod Theorem
