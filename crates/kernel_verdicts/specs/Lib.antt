-- What any calls of a kernel session, recorded on its tape, are judged as.
pub mod Taping
