-- What a selection reads of an answer, whatever its status: documents 01 and 001, sections 11.3.4 and 12.2.
pub mod Objects
pub mod Files
pub mod Directory
