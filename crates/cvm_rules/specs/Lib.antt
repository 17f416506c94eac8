-- One rule of a verification list, as 003 has it: section 7.5 and Annex A3, with the bits of Annex A5.
pub mod Bits
pub mod Methods
pub mod Conditions
pub mod Turns
