-- What the laws over all of the card's answers are stated with: right answers.
pub mod RightAnswers
pub mod RightForms
