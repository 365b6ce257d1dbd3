-- Demand 3. What a reader must believe: `World` has two ends, two queues and what is called and delivered, `Demand` what holds whatever that is.
-- Why it holds, of any program: `Packets` has what is on its way, `Turns` what the tables decide of it, `Confirmations` what is awaited, `Invariant` all
-- of it together, and `Laws` what it asks of a program.
pub mod World
pub mod Demand
pub mod Packets
pub mod Turns
pub mod Confirmations
pub mod Invariant
pub mod Laws
