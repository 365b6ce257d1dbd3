-- `open_write::field_length` meets its contract: nothing overflows. Assumes nothing.
use lib.ListN.{length}
use borrow.Author.Rules.{rules}
use Rattle.wire.proofs.Shortest.{varint_at_most}
use Rattle.open_write.proofs.field_length.Goals as goal

pub overflow_add-result : goal.overflow_add-result
overflow_add-result c = let h = varint_at_most (length c.args.bytes.now) in let e = c.varint_length.ensures in search rules

pub overflow_add-result-2 : goal.overflow_add-result-2
overflow_add-result-2 c = let h = varint_at_most (length c.args.bytes.now) in let e = c.varint_length.ensures in search rules
