pub mod Filling
pub mod Laying
pub mod Missing
pub mod Turn
mod Worked
