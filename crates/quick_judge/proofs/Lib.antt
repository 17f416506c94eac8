pub mod Finding
pub mod Same
