-- The list of applications that a selection chooses from: documents 02, R-12, and 001, 12.4; and how it is kept in lent bytes.
pub mod Order
pub mod Ordered
pub mod Kept
pub mod Steps
