-- Document 01, "Marked cases", the last paragraph: the line that is written for a bundle's control frame.
pub mod Text
pub mod Report
