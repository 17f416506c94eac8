-- The four commands as bytes: document 01, "The commands".
pub mod Commands
