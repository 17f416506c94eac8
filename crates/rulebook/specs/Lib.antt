-- The rulebook: which whole sessions there are. It names neither the kernel nor the judge.
pub mod Situation
pub mod Phase
pub mod Turn
pub mod Session
pub mod Stated
pub mod Machine
pub mod Roles
pub mod Later
