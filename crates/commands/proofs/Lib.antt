pub mod Sizes
pub mod Shapes
pub mod Pinned
