-- CRC-32: what is computed, bit by bit; and the rules of the stored tables.
pub mod Check
pub mod Parts
pub mod Tables
