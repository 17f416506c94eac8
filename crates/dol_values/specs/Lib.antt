-- What the terminal knows, and how a value is cut or filled to its room: document 01, "The commands".
pub mod Shape
pub mod Own
pub mod Known
