-- `open_write::frame_length` meets its contract: the sum of its fields. Assumes nothing.
use mathlib.Core.Path.{sym}
use lib.ListN.{length}
use borrow.Author.Rules.{rules}
use Rattle.wire.proofs.Shortest.{varint_at_most}
use Rattle.open_write.proofs.Fields.{format_short, parameters_short, length_frame}
use Rattle.open_write.proofs.frame_length.Goals as goal

pub overflow_add-result : goal.overflow_add-result
overflow_add-result c =
    let a = c.args in
    let f = c.field_length.ensures in let v = varint_at_most (length a.offer.name.now) in let l = c.requires.0 in
    search rules

pub overflow_add-result-2 : goal.overflow_add-result-2
overflow_add-result-2 c =
    let a = c.args in
    let f = c.field_length.ensures in let v = varint_at_most (length a.offer.name.now) in let l = c.requires.0 in
    let g = c.format_length.ensures in let w = format_short a.offer.format.now c.requires.1 in
    search rules

pub overflow_add-result-3 : goal.overflow_add-result-3
overflow_add-result-3 c =
    let a = c.args in
    let f = c.field_length.ensures in let v = varint_at_most (length a.offer.name.now) in let l = c.requires.0 in
    let g = c.format_length.ensures in let w = format_short a.offer.format.now c.requires.1 in
    let p = c.parameters_length.ensures in let q = parameters_short a.limit in
    search rules

pub returns : goal.returns
returns c = rw (c.field_length.ensures, c.format_length.ensures, c.parameters_length.ensures) (sym (length_frame _ _ _ _))
