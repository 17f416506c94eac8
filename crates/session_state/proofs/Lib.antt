pub mod Telling
pub mod Starting
pub mod Nine
