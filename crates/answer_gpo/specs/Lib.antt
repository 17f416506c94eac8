-- What the answer to GET PROCESSING OPTIONS must be: document 01, "What the card must answer".
pub mod Options
