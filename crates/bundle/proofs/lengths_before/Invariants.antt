-- `bundle::lengths_before` meets its contract. The invariant of its loop: sum is that of the first i lengths, each of which is below 2^32.
-- Assumes nothing.
use Rattle.std.specs.Prelude.{◌≡◌, ◌*◌, ◌≤◌}
use Rattle.bundle.specs.Reading.{lengths_before}
use Rattle.bundle.proofs.lengths_before.Given as goal

abbrev pub invariant-loop-i : goal.invariant-loop-i
invariant-loop-i l = (l.sum ≡ lengths_before l.s l.i) × (l.sum ≤ l.i * 4294967295)
