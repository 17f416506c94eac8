-- Decimal digits and dates, as document 01 has them, with the years of document 02.
pub mod Decimal
pub mod Dates
pub mod Order
pub mod Calendar
