-- `Determined` has for each entry that any two results which meet its contract coincide; `OnBlocks` leads from a record to its
-- block; `Named` has that the slots stand where they are named, `Given` that every datum is one that a host may give.
pub mod Determined
pub mod OnBlocks
pub mod Named
pub mod Given
