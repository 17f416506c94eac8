-- Commands and answers as the layers that carry them see them: 000, I-5.4.
pub mod Commands
pub mod Answers
