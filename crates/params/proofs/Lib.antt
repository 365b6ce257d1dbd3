-- `Neither` has a number that is no kind of a Value, `Walks` the steps of a message that is judged field by field, `Finds` those of a search for a field and for a key, `Alone` that a
-- Value is readable as a part of its own, `Readable` what a readable message holds, `Distinct` that its keys differ, `Examples` what some
-- Structs come to.
pub mod Neither
pub mod Walks
pub mod Finds
pub mod Alone
pub mod Readable
pub mod Distinct
pub mod Examples
