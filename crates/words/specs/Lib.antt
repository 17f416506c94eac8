-- What somebody other than the card says after START.
pub mod Words
pub mod Choice
