-- `wire::varint_length` meets its contract: the digits that were counted and those still to come are all. Assumes nothing.
use borrow.Author.Rules.{rules}
use Rattle.wire.proofs.Shortest.{count_first, count_last, count_next}
use Rattle.wire.proofs.varint_length.Goals as goal

pub loop-left-init : goal.loop-left-init
loop-left-init c = count_first _ (search rules)

pub overflow_add-count : goal.overflow_add-count
overflow_add-count c = let next = (count_next _ _ _ c.loop-left.invariant c.loop-left-test.true).0 in search rules

pub loop-left-preserved : goal.loop-left-preserved
loop-left-preserved c = (count_next _ _ _ c.loop-left.invariant c.loop-left-test.true).1

pub returns : goal.returns
returns c = count_last _ _ _ c.loop-left.invariant c.loop-left-test.false
