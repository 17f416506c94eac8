-- What stands at a block of a tape, beside what is due there.
pub mod Meeting
