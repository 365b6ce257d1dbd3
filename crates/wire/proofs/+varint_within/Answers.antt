-- `wire::varint_within` meets its contract: each call on the bytes behind has one byte less to go. Assumes nothing.
use borrow.Author.Rules.{rules}
use Rattle.wire.proofs.Varints.{at_none, at_end, at_last, more_read, more_large, more_err}
use Rattle.wire.proofs.+varint_within.Goals as goal

pub returns-then-left-eq0 : goal.returns-then-left-eq0
returns-then-left-eq0 t c = at_none _ _ _ _ c.if-left-eq0.true

pub returns-then-end-at : goal.returns-then-end-at
returns-then-end-at t c = at_end _ _ _ _ c.if-left-eq0.false c.if-end-at.true

pub returns-then-byte-lt128 : goal.returns-then-byte-lt128
returns-then-byte-lt128 t c = rw c.from.ensures (at_last _ _ _ _ c.if-left-eq0.false c.if-end-at.false c.if-byte-lt128.true)

pub returns-in_err-behind : goal.returns-in_err-behind
returns-in_err-behind t c = let h = more_err _ _ _ _ c.if-left-eq0.false c.if-end-at.false c.if-byte-lt128.false _ c.varint_within.ensures _ c.in_err-behind.was in search rules

pub returns-then-behind-ge144115188075855872 : goal.returns-then-behind-ge144115188075855872
returns-then-behind-ge144115188075855872 t c =
    more_large _ _ _ _ c.if-left-eq0.false c.if-end-at.false c.if-byte-lt128.false _ c.varint_within.ensures _ c.in_ok-behind.was c.if-behind-ge144115188075855872.true

pub returns : goal.returns
returns t c =
    more_read _ _ _ _ c.if-left-eq0.false c.if-end-at.false c.if-byte-lt128.false _ c.varint_within.ensures _ _ c.in_ok-behind.was c.if-behind-ge144115188075855872.false c.from-2.ensures
