-- What a record must be, and what the records together must tell: document 01, "What the card must answer".
pub mod Records
pub mod Taken
