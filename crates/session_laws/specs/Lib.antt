-- How a session's state and the rulebook stand to one another.
pub mod Agreeing
pub mod Logging
pub mod Bits
