-- What a session waits for, and what it may be told.
pub mod Waiting
pub mod Saying
