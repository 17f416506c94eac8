-- An event at one end of the line, one turn on. 000, I-5.2.4.3 to I-5.2.5.1.
pub mod Turns
