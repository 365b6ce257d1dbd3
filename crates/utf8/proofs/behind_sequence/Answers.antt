-- `utf8::behind_sequence` meets its contract: the row that has the first byte says what is due, and the bytes behind it are that or not.
-- Assumes nothing.
use mathlib.Core.Path.{sym, ◌∙◌}
use Rattle.utf8.proofs.Sequences.{no_row, not_whole, whole}
use Rattle.utf8.proofs.behind_sequence.Goals as goal

pub returns-in_default : goal.returns-in_default
returns-in_default c = no_row c.args.s.now c.args.i c.requires _ c.due_behind.ensures c.in_default.is

pub returns-then-follow : goal.returns-then-follow
returns-then-follow c =
    rw c.from.ensures (whole c.args.s.now c.args.i c.requires _ c.due_behind.ensures c.in-Some.is (sym c.follow.ensures ∙ c.if-follow.true))

pub returns : goal.returns
returns c = not_whole c.args.s.now c.args.i c.requires _ c.due_behind.ensures c.in-Some.is (sym c.follow.ensures ∙ c.if-follow.false)
