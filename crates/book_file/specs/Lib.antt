-- The lines that are entered in a book.
pub mod Lines
