-- Laws of reading an answer to reset, and what they are stated with.
pub mod Readings
pub mod Basic
pub mod Broken
pub mod Order
pub mod Plain
