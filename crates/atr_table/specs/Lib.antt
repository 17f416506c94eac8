-- Line bytes and data bytes.
pub mod Turning
