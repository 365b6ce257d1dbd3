-- `World` has that a world is two runs of one end.
-- The tables: `Table` has what a row that leads on says, `Turns` where two ends stand by it.
-- The parts of the invariant: `Streams` has confirmations, data, READYs and accounts, `Counts` the batches and their offers.
-- That the tables have the laws: `Packets` has what a send puts on its way, `Taking` what an end makes of it, `Tables` all of them.
-- The invariant, of every program that has the laws: `Ends` has one end's part of it, `Link` a send between two ends, `Hearing` a receive, `Step`
-- every call.
-- Demand 3: `Speaking` has what may be sent at rest, `Accounts` what is unconfirmed, `Holding` what the invariant gives, `Demand` the theorem.
-- `Follows` has that a program which does what another does has its laws; `Example` has four sessions.
pub mod World
pub mod Table
pub mod Turns
pub mod Streams
pub mod Counts
pub mod Packets
pub mod Ends
pub mod Taking
pub mod Tables
pub mod Link
pub mod Hearing
pub mod Step
pub mod Speaking
pub mod Accounts
pub mod Holding
pub mod Demand
pub mod Follows
pub mod Example
