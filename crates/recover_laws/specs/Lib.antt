-- What the reader of damaged tapes finds: on good tapes, on damaged ones, and asked step by step.
pub mod Damage
pub mod Walking
pub mod Recovers
