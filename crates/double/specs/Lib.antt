-- Document 01, "Inside the OPEN frame": numbers as doubles, and the limit parameter.
pub mod Double
pub mod Limit
