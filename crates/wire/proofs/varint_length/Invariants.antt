-- `wire::varint_length` meets its contract: the digits that were counted and those still to come are all. Assumes nothing.
use Rattle.wire.proofs.Shortest.{Counted}
use Rattle.wire.proofs.varint_length.Given as goal

abbrev pub invariant-loop-left : goal.invariant-loop-left
invariant-loop-left l = Counted l.number l.left l.count

abbrev pub decreases-loop-left : goal.decreases-loop-left
decreases-loop-left l = l.left
