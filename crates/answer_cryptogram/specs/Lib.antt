-- What the answer to GENERATE AC must be: document 01, "What the card must answer".
pub mod Cryptogram
