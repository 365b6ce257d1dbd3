-- `Witnesses` has one opening, computed on its bytes by the tables; `Idle` that what meets the contracts gives what the tables give, and that three
-- idle programs are seen to differ there; `Echoing` that those do which echo, `MadeUp` that those do which make up n or W; `LastClause` has the
-- last clause of demand 3.
pub mod Witnesses
pub mod Idle
pub mod Echoing
pub mod MadeUp
pub mod LastClause
