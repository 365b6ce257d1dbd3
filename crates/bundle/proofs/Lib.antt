-- `Sums` has the laws of a bundle's lengths, `Outputs` those of what a writer leaves, `Round` that reading gives back what was written,
-- `Determined` that a writer's contract allows one result.
pub mod Sums
pub mod Outputs
pub mod Round
pub mod Determined
