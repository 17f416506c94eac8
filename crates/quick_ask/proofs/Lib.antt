pub mod Knowing
pub mod Written
