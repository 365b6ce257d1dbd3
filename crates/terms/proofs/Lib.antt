-- `Layers` has the cases of a lookup, and that what it finds lies in its layer, `Answers` that what it finds is a Value that is read,
-- `Limits` that what is announced is in the limits, `Determined` that a lookup hands back one part.
pub mod Layers
pub mod Answers
pub mod Limits
pub mod Determined
