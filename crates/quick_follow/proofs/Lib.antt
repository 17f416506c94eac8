pub mod Going
pub mod Recording
pub mod Beginning
