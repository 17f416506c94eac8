-- What is found of a tape from one of its blocks on (02, R-14).
pub mod Said
