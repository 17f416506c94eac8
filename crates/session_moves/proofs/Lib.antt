pub mod Moving
pub mod Bits
pub mod Knowing
