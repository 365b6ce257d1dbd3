-- Document 01, "Inside the OPEN frame": what a Value is answered as, how a term is looked up, and the limit that is announced.
pub mod Value
pub mod Lookup
pub mod Announced
