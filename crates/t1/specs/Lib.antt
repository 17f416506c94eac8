-- One end of a T=1 line over the lent buffers.
pub mod Steps
