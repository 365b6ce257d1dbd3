-- `bytes_be::same_words` meets its contract. The invariant of its loop: the bytes in front of the place that it has reached are the same.
-- Assumes nothing.
use Prim.Native.Nat.{◌+◌, ◌≤◌}
use mathlib.Core.Path.{◌≡◌}
use Rattle.bytes_be.specs.Part.{part}
use Rattle.bytes_be.proofs.same_words.Given as goal

abbrev pub invariant-loop-at : goal.invariant-loop-at
invariant-loop-at l = (l.at ≤ l.last + 8) × (part l.a 0 l.at ≡ part l.b 0 l.at)
