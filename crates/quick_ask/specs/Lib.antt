-- What a session has come to, read off the bytes that are at hand, and the slots that its object lists are filled from.
pub mod Standing
pub mod Known
