-- What an exchange by T=0 keeps, and what one byte of the card's says.
pub mod Bytes
pub mod Changes
