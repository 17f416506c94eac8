pub mod Tracking
pub mod Deciding
