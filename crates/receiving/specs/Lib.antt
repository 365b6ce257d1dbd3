-- Document 01, "Receiving" and the numbers 1, 2, 3, 10 to 24.
pub mod Numbers
pub mod Refusing
pub mod Hearing
pub mod Rows
pub mod Receiving
