pub mod Standing
pub mod Words
pub mod Fitting
pub mod Commanding
pub mod Stepping
pub mod Clearing
pub mod Telling
pub mod Reaching
