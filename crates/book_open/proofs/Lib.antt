pub mod Faults
pub mod Blockwise
