pub mod Rooms
pub mod Sending
pub mod Asking
