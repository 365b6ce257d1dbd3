-- Document 01, "Inside the OPEN frame": what an OPEN frame says, and which of 18 to 22 refuses it.
pub mod Frame
pub mod Offer
pub mod Open
