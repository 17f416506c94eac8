-- What a card can influence (02, R-13): what is seen of an answer, what a session is given, and what is proved of both.
pub mod Seen
pub mod Under
pub mod Given
pub mod SideBySide
pub mod Used
pub mod Order
pub mod Dressing
pub mod Theorem
