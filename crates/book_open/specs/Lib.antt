-- What any bytes reopen as (02, R-11).
pub mod Reopening
