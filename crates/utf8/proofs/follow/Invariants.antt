-- `utf8::follow` meets its contract. The invariant of its loop: the whole comes to whether those that are left stand behind the bytes so far.
-- Assumes nothing.
use Prim.Native.Nat.{◌+◌, ◌-◌}
use mathlib.Core.Path.{◌≡◌}
use Rattle.bytes_be.specs.Part.{part}
use Rattle.utf8.specs.Text.{rest}
use Rattle.utf8.specs.Held.{ranges}
use Rattle.utf8.proofs.follow.Given as goal

abbrev pub invariant-loop-byte : goal.invariant-loop-byte
invariant-loop-byte l =
    let left = l.fn.due.count - l.byte-index in
    rest (ranges l.fn.due.count l.fn.due.from l.fn.due.to) (part l.s l.at l.fn.due.count) ≡ rest (ranges left l.from l.to) (part l.s (l.at + l.byte-index) left)
