-- The line that says a verdict, its place, its code and the fourth number.
pub mod Line
