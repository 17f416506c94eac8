pub mod Sessions
pub mod WrittenOut
pub mod ShutOut
pub mod SeenErrors
pub mod Verified
pub mod VerifiedShutOut
