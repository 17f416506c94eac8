-- The accepted events of a session.
pub mod Events
