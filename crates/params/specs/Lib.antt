-- Document 01, "Inside the OPEN frame": what a Struct, a Value and a list may be.
pub mod Message
pub mod Keys
pub mod Rules
