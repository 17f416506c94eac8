-- One byte of the card's: how the exchange goes on. 000, I-5.2.2.3 and I-5.3.1.
pub mod Turns
