-- What a session has come to, as the rulebook speaks of it.
pub mod Standing
