-- `wire::varint_at` meets its contract: one byte is a varint of at most ten. Assumes nothing.
use native.Mathlib.Omega.{arith}
use Rattle.wire.specs.Varint.{varint_at}
use Rattle.wire.proofs.Varints.{at_last}
use Rattle.wire.proofs.varint_at.Goals as goal

pub returns-then-byte-lt128 : goal.returns-then-byte-lt128
unfolding varint_at
returns-then-byte-lt128 c = rw c.from.ensures (at_last 10 _ _ _ (λ e. absurd (omega arith)) c.if-at-end.true c.if-byte-lt128.true)

pub returns : goal.returns
unfolding varint_at
returns c = c.varint_within.ensures
