-- How an exchange begins, and its headers: 000, I-5.2.2.2 and I-5.3.1.1.
pub mod Begin
