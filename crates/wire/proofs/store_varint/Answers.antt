-- `wire::store_varint` meets its contract: what is copied are the number's digits up to the last. Assumes nothing.
use mathlib.Core.Path.{sym}
use lib.Seq.{length-take-le}
use borrow.Author.Rules.{rules}
use Rattle.wire.proofs.Shortest.{varint_at_most}
use Rattle.wire.proofs.store_varint.Goals as goal

pub slice_bounds-digits-end : goal.slice_bounds-digits-end
slice_bounds-digits-end c = let h = varint_at_most c.args.number in let e = c.varint_length-length.ensures in search rules

pub slice_bounds-copy_at-end : goal.slice_bounds-copy_at-end
slice_bounds-copy_at-end c = let h = varint_at_most c.args.number in let e = c.varint_length-length.ensures in sym (length-take-le _ _ (search rules))

pub returns : goal.returns
returns c =
    let said = c.varint_length-length.ensures in
    rw (said, c.digits_of-digits.ensures) at c.copy_at.ensures
