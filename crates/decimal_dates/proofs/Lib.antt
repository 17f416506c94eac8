pub mod Digits
pub mod Order
pub mod Calendar
mod DatesWorked
