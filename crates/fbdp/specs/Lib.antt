-- What the entries of the C interface answer and leave.
pub mod Entries
pub mod Slots
pub mod Blocks
