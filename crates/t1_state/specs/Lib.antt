-- What one end of a T=1 line keeps, its limits, and states changed in one part.
pub mod Limits
pub mod Changes
