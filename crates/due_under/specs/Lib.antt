-- What is due after some entries of a tape under rules, whatever the rules, and which entries fit it.
pub mod Due
pub mod After
pub mod Theorem
