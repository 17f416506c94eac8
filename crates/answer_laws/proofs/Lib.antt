pub mod AcceptedAnswers
pub mod RightAnswers
pub mod RightForms
pub mod Reasons
