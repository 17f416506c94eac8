pub mod Laying
pub mod Opened
