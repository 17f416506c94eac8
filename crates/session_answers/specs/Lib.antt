-- What an answer leaves in the state.
pub mod Keeping
