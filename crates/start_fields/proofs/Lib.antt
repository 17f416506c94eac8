pub mod Reading
pub mod Sample
