-- The accepted events of a session under the rules with choosing the application: document 02, R-12.
pub mod Moves
pub mod Turns
pub mod Events
