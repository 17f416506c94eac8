pub mod OwnTests
pub mod Order
pub mod WordRefused
pub mod Picks
