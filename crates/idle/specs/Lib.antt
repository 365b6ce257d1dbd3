-- Document 01, "Four idle programs are to be tried and rejected": `Idle` has that a program which meets the contracts gives what the tables give, and
-- the programs that do not meet them; `LastClause` the last clause of demand 3, of any program.
pub mod Idle
pub mod LastClause
