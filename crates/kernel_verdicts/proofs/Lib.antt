pub mod Taping
pub mod Theorem
