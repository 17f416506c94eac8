-- How a session's state and the rules with choosing the application stand to one another: document 02, R-12.
pub mod Agreeing
pub mod Logging
