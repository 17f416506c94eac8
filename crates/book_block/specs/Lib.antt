-- One block of the campaign book (02, R-11).
pub mod Entries
pub mod Blocks
