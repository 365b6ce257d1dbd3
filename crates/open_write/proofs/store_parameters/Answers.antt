-- `open_write::store_parameters` meets its contract: its four copies are the field, or it writes none. Assumes nothing.
use Prim.Native.Nat.{◌+◌, ◌≤◌}
use mathlib.Core.Path.{sym, ap, ◌∙◌}
use lib.ListN.{length}
use borrow.Author.Rules.{rules}
use Rattle.bytes_be.specs.Part.{put_at}
use Rattle.bytes_be.proofs.Parts.{put_nothing}
use Rattle.open_write.proofs.Fields.{parameters_none, length_parameters}
use Rattle.open_write.proofs.Stored.{stored_parameters}
use Rattle.open_write.proofs.store_parameters.Goals as goal

pub overflow_add-at : goal.overflow_add-at
overflow_add-at c = let r = c.requires in let g = c.well_formed in search rules

pub overflow_add-at-then-limit-ne50000000 : goal.overflow_add-at-then-limit-ne50000000
overflow_add-at-then-limit-ne50000000 c = let r = c.requires in let g = c.well_formed in search rules

pub overflow_add-at-then-limit-ne50000000-2 : goal.overflow_add-at-then-limit-ne50000000-2
overflow_add-at-then-limit-ne50000000-2 c = let r = c.requires in let g = c.well_formed in search rules

pub returns-then-limit-ne50000000 : goal.returns-then-limit-ne50000000
returns-then-limit-ne50000000 c =
    let a = c.args in
    let other = c.if-limit-ne50000000.true in
    let room : a.at + 34 ≤ length a.out.now = rw (length_parameters _ other) at c.requires in
    rw (c.copy_at-then-limit-ne50000000-3.ensures, c.copy_at-then-limit-ne50000000-2.ensures, c.copy_at-then-limit-ne50000000.ensures, c.copy_at.ensures, c.bytes_of-number.ensures)
    (stored_parameters a.out.now a.at a.limit other room)

pub returns-else-limit-ne50000000 : goal.returns-else-limit-ne50000000
returns-else-limit-ne50000000 c = sym (ap (put_at _ _) (parameters_none _ c.if-limit-ne50000000.false) ∙ put_nothing _ _)
