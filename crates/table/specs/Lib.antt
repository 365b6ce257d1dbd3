-- Document 01, the table of "Sending" and the rows of "Receiving".
pub mod Table
