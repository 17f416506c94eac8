-- What an object list asks for, as document 01, "The commands", has it.
pub mod Wanted
