-- Document 01, "Receiving": a message between its bytes and the tables, and the numbers 10 to 15, of which C-12 changes 15.
pub mod Reading
pub mod Held
