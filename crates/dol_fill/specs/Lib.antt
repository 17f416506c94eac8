-- The bytes that an object list is filled with: document 01, "The commands".
pub mod Filled
