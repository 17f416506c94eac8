pub mod Tables
pub mod Shaping
pub mod Pinned
