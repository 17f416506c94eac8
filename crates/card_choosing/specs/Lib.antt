-- What a card can influence by the rules with choosing the application (02, R-13 over R-12).
pub mod Places
pub mod Used
pub mod Order
pub mod Theorem
