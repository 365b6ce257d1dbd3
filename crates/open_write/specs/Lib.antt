-- Document 01, "Sending": the OPEN frame as it is written, and what is heard of it.
pub mod Frame
pub mod Round
