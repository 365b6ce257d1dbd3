-- Document 01, "Frame 1 is the control frame", and the numbers 11 to 13.
pub mod Frame
