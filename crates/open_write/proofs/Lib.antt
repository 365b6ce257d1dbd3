-- `Fields` has the fields of a frame byte by byte and their lengths, `Stored` what one store behind another leaves, `Announced` that the
-- limit parameter is read back, and `Round` that the whole frame is.
pub mod Fields
pub mod Stored
pub mod Announced
pub mod Round
