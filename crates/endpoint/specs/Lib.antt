-- Document 01, "State block, 64 bytes": the record, its block, and that loading and storing undo each other.
pub mod Record
pub mod Block
pub mod Round
