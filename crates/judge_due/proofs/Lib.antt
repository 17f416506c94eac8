pub mod Laying
pub mod Tracked
pub mod Fed
