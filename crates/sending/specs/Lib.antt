-- Document 01, "Sending" and the numbers 1, 2, 3, 30 to 35; and the choice of C-12, a body or none.
pub mod Calls
pub mod Numbers
pub mod Options
pub mod Sending
pub mod Held
