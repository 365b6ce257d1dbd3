-- `Stored` has what stores one behind the other leave, `Entries` how the entries stand in their bytes, `Reports` how many of them are of DATA, `Types`
-- that the sum of their types tells it, `Told` what a good record says, `StaysGood` that it stays good, `Round` that loading and storing undo each
-- other and that byte 6 counts, `Awaited` that the entries are a queue, `Made` what a making that is accepted makes.
pub mod Stored
pub mod Entries
pub mod Reports
pub mod Types
pub mod Told
pub mod StaysGood
pub mod Round
pub mod Awaited
pub mod Made
