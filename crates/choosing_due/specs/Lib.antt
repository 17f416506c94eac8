-- What is due after some entries of a tape by the rules with choosing the application (02, R-12).
pub mod Due
pub mod After
pub mod Was
pub mod Theorem
