-- The words for the kinds of entries.
pub mod Kinds
