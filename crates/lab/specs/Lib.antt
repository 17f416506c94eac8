-- What the library hands over its border: findings, what is due, blocks, books and answers to reset, each as numbers.
pub mod Findings
pub mod Due
pub mod Tapes
pub mod Books
pub mod Resets
