-- What the answer to SELECT must be: document 01, "What the card must answer".
pub mod Select
