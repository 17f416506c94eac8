-- Reading an answer to reset: what it tells, or the rules that it breaks.
pub mod Reading
