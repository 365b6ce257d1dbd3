-- `wire::varint_within` meets its contract: each call on the bytes behind has one byte less to go. Assumes nothing.
use Rattle.wire.proofs.+varint_within.Given as goal

abbrev pub decreases-varint_within : goal.decreases-varint_within
decreases-varint_within l = l.left
