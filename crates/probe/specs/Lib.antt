-- What the functions that are exported for the comparison answer and leave.
pub mod Entries
