-- `Runs` has the opening that all runs share, and demand 3 at the end of a run; `Slips`, `Bodies` and `Limits` have that each slip breaks a clause
-- there.
pub mod Runs
pub mod Slips
pub mod Bodies
pub mod Limits
