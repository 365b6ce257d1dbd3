-- `Tests` has laws of tests, `Parts` those of parts and of what a store leaves, `Filled` those of a list element by element, `Sameness` those
-- of equal lists, `Numbers` those of big-endian numbers at any width, `Words` those of the number that bytes say backwards; `Determined` has that
-- a definition allows one result.
pub mod Tests
pub mod Parts
pub mod Filled
pub mod Sameness
pub mod Numbers
pub mod Words
pub mod Determined
