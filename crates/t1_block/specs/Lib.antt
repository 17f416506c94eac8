-- A block of T=1: its fields, its tests, how one is written. 000, I-5.2.4.1.
pub mod Blocks
pub mod Faults
