-- That what is seen of an answer while the application is chosen counts: worked pairs of sessions (02, R-13 over R-12).
pub mod Theorem
