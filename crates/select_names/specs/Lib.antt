-- Which applications of a card the terminal supports: document 001, 12.3.1.
pub mod Names
