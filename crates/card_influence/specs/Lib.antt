-- What a card can influence in the kernel's calls and in a verdict (02, R-13).
pub mod Calls
pub mod Exchanged
pub mod Theorem
