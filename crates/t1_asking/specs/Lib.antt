-- A block where a request of our own is open. 000, I-5.2.4.3 and I-5.2.5.1.
pub mod Asking
