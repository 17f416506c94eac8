pub mod Good
mod Found
mod CryptogramWorked
