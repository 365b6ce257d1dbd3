-- `Rows` has that what may be heard is what the other end may send, `Numbers` that a receive's answer by number is all of it.
pub mod Rows
pub mod Numbers
