pub mod Laying
pub mod Worked
