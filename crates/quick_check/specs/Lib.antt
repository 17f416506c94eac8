-- What makes a whole tape unreadable, of one tape and of many; and the rules of the stored numbers.
pub mod Damages
pub mod Tables
