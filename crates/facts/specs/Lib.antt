-- What the card has told, tag by tag.
pub mod Facts
