mod Lengths
pub mod InRows
pub mod Passing
pub mod Turns
pub mod Zeros
pub mod Fields
pub mod Saying
pub mod Many
