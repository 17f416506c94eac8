pub mod Good
mod Found
mod OptionsWorked
