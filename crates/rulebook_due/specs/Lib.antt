-- What is due after some entries of a tape by the rules of 01, and which entries fit it.
pub mod Due
pub mod After
pub mod Theorem
