-- What the records of a card have told, as one array with a slot for each name; and long values that are kept by value.
pub mod Slots
pub mod Runs
