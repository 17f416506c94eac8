mod Examples
pub mod Laws
