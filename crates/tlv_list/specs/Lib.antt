-- Lists of data objects, as document 01, "Data objects", has them: which bytes are one and of what objects, how it is walked by
-- place, and how an object is looked up by its tag.
pub mod Objects
pub mod Place
pub mod Lookup
