-- Document 01, "Slips we have seen": `Slips` has a program for each slip that demand 3 sees, and that demand 3 fails of it.
pub mod Slips
