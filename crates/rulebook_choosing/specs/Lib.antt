-- The rules with choosing the application: document 02, R-12.
pub mod Choosing
pub mod Session
pub mod Machine
pub mod Stated
pub mod Sent
pub mod Nobody
pub mod Endless
pub mod Untouched
pub mod Unlooked
