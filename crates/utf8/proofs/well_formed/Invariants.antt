-- `utf8::well_formed` meets its contract. The invariant of its loop: the whole comes to what comes of the bytes from place i on, where a
-- sequence begins. The measure is the number of bytes still to pass. Assumes nothing.
use Prim.Native.Nat.{◌≤◌, ◌-◌}
use mathlib.Core.Path.{◌≡◌}
use lib.ListN.{length, drop}
use Rattle.utf8.specs.Text.{well_formed}
use Rattle.utf8.proofs.well_formed.Given as goal

abbrev pub invariant-loop-i : goal.invariant-loop-i
invariant-loop-i l = (l.i ≤ length l.s) × (well_formed l.s ≡ well_formed (drop l.i l.s))

abbrev pub decreases-loop-i : goal.decreases-loop-i
decreases-loop-i l = length l.s - l.i
