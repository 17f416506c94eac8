-- What a kernel session puts on its tape.
pub mod Recording
