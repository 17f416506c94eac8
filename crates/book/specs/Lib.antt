-- The campaign book (02, R-11): its end, what is entered and refused, and what any bytes reopen as.
pub mod Counting
pub mod Entering
