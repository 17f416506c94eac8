-- What is said of ends of a line: which fields they keep, how they stop, what they send, and what two of them do to each other.
pub mod Keeping
pub mod Joined
pub mod Stopping
pub mod Lossy
pub mod Conduct
pub mod Sendings
pub mod Talks
pub mod Worked
