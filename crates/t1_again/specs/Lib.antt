-- What goes out after a block that is not taken. 000, I-5.2.5.1.
pub mod Again
