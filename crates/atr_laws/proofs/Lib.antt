pub mod Accepting
pub mod Conventions
pub mod Complete
pub mod Bits
pub mod BasicLevels
pub mod BasicAnswers
pub mod Rising
pub mod InOrder
pub mod Plain
mod EachRule
