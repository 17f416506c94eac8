pub mod Playing
pub mod Sessions
pub mod Tapes
pub mod Agreeing
pub mod Later
pub mod Was
