pub mod Own
pub mod Walk
