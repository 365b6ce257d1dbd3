-- Demand 3 over the C entries: what they are as a program, and what holds of two blocks that they made and changed.
pub mod Entries
