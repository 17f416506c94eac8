-- From TVR and action codes to a decision, as document 01 has it: requests, the issuer's reply.
pub mod Requests
pub mod Replies
