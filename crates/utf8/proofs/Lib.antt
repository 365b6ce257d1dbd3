-- `Rows` has laws of the table's tests and of what is due, `Sequences` those of the sequence at a place, `Texts` those of texts in a row,
-- `Runs` those of bytes below 128 in a row, `Steps` those of one pass over a text, `Examples` bytes that are text and bytes that are not.
pub mod Rows
pub mod Sequences
pub mod Texts
pub mod Runs
pub mod Steps
pub mod Examples
