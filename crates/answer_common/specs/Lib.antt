-- What every answer of the card is asked: that its data is one object, and the objects in it that document 01, "What the card
-- must answer", names, with what their values must be.
pub mod CardNumber
pub mod Content
pub mod Answer
pub mod Single
pub mod Named
pub mod Forms
pub mod Right
