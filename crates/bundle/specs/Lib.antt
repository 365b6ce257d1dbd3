-- Document 01, "Bundle: contents first, then bodies".
pub mod Reading
pub mod Writing
