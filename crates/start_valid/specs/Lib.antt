-- Which STARTs are valid, as document 01 has it.
pub mod Start
