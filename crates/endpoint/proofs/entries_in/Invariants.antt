-- `endpoint::entries_in` meets its contract: the loop keeps the first i bytes equal to those in the block.
-- Assumes nothing.
use mathlib.Core.Path.{◌≡◌}
use mathlib.Core.List.{◌++◌}
use lib.ListN.{drop, length}
use Rattle.bytes_be.specs.Part.{part}
use Rattle.endpoint.specs.Record.{no_entries}
use Rattle.endpoint.proofs.entries_in.Given as goal

abbrev pub invariant-loop-i : goal.invariant-loop-i
invariant-loop-i l = (length l.block ≡ 64) × (length l.entries ≡ 48) × (l.entries ≡ part l.block 16 l.i ++ drop l.i no_entries)
