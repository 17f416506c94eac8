pub mod Counting
pub mod Walking
mod Pinned
pub mod Chunks
