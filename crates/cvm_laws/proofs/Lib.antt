pub mod EachTry
pub mod Growing
pub mod OneRule
pub mod Untried
pub mod Success
mod WorkedMethods
mod WorkedConditions
mod WorkedLists
