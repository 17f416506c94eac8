-- A block where no request of our own is open. 000, I-5.2.4.3, I-5.2.4.4 and I-5.2.5.1.
pub mod Line
