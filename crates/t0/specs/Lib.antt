-- The exchange over the lent buffers: one byte.
pub mod Steps
