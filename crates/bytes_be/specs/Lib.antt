-- The words of every layer above: parts of a list, what a store leaves, big-endian numbers, and text as bytes.
pub mod Part
pub mod Number
pub mod Ascii
