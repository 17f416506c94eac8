-- When a call is turned away.
pub mod Refusals
pub mod WrongWord
