-- What a reader that holds the lent answer and its place gives. 01, "Data objects".
pub mod Held
