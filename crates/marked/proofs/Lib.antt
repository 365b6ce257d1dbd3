-- `Marked` has that every marked case comes out as document 01 says, `Bodies` the same of C-12 on bytes.
pub mod Marked
pub mod Bodies
