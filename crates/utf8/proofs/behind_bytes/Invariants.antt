-- `utf8::behind_bytes` meets its contract. The invariant of its loop: there is a run up to the place that it has reached. The measure is the
-- number of bytes from there to the end. Assumes nothing.
use Prim.Native.Nat.{◌-◌}
use lib.ListN.{length}
use Rattle.utf8.proofs.Runs.{Run}
use Rattle.utf8.proofs.behind_bytes.Given as goal

abbrev pub invariant-loop-i : goal.invariant-loop-i
invariant-loop-i l = Run l.s l.from l.i

abbrev pub decreases-loop-i : goal.decreases-loop-i
decreases-loop-i l = length l.s - l.i
