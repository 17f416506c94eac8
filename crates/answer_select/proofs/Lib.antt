pub mod Good
pub mod Inside
mod Found
mod SelectWorked
