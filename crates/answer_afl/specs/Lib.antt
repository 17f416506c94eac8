-- The application file locator (AFL), as document 01 has it: its entries, and the records that they name.
pub mod Entries
pub mod Cursor
