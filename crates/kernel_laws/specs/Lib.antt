-- The log of a kernel's session, and what is said of it.
pub mod Log
pub mod Replay
pub mod Table
pub mod Saying
pub mod Ending
