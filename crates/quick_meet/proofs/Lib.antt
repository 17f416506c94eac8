pub mod Tests
mod OneBlock
pub mod Found
