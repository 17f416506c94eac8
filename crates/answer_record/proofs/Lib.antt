pub mod Walked
mod OneApart
pub mod Doubled
pub mod Taken
mod RecordsWorked
