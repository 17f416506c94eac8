pub mod Cells
pub mod Apart
pub mod Keeping
pub mod There
pub mod Present
