-- The lines with which a session is played.
pub mod Lines
