pub mod Rules
pub mod Supplying
pub mod Filling
pub mod Agreeing
pub mod NewKind
pub mod Theorem
