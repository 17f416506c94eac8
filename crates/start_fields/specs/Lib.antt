-- START, the terminal's data, as document 01 has it: where its fields stand, and what is read of them.
pub mod Layout
pub mod Reading
pub mod Bare
