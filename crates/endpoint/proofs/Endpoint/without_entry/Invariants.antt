-- `endpoint::Endpoint::without_entry` meets its contract: the loop keeps the first bytes equal to those without the entry.
-- Assumes nothing.
use mathlib.Core.Path.{◌≡◌}
use lib.ListN.{length}
use Rattle.endpoint.proofs.Entries.{begun}
use Rattle.endpoint.proofs.Endpoint.without_entry.Given as goal

abbrev pub invariant-loop-at : goal.invariant-loop-at
invariant-loop-at l = (length l.rest ≡ 48) × (l.rest ≡ begun l.entries l.i l.at)
