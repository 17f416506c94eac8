pub mod Refusals
pub mod ReadBack
mod Pinned
pub mod Accepted
