-- Laws over any history of a campaign book, and which bytes reopen (02, R-11).
pub mod History
