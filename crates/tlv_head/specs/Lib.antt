-- The head of a data object, as document 01, "Data objects", has it, and the object that stands at a place.
pub mod Head
pub mod Member
