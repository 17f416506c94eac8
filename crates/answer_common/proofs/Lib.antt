mod CardNumber
pub mod Limits
pub mod Any
pub mod Outer
pub mod Single
pub mod Members
pub mod Membered
pub mod Templates
pub mod Sizes
pub mod Alike
pub mod Accepted
pub mod Present
mod Pinned
pub mod Absent
pub mod BothForms
pub mod Good
pub mod Opened
pub mod Names
