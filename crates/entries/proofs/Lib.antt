-- `Told` has that what an entry tells is what was heard and replied, `Entries` that the entries do on a block what the tables do on its record,
-- demand 3, and that byte 6 is true.
pub mod Told
pub mod Entries
