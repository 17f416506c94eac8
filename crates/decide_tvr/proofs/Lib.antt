mod Signed
mod Words
pub mod Rows
pub mod Laws
pub mod Interpolation
mod ExampleResults
