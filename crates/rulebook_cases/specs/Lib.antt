-- The cases A to L of document 01, "Sessions on the bench", as one table.
pub mod Table
