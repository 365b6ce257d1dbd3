-- `open_write::given_of` meets its contract, by the tests. Assumes nothing.
use mathlib.Core.Path.{sym, ◌∙◌}
use Rattle.bytes_be.proofs.Tests.{both_true}
use Rattle.open_write.specs.Frame.{is_good, given_of}
use Rattle.open_write.proofs.Fields.{name_says, format_says}
use Rattle.open_write.proofs.given_of.Goals as goal

pub frame_length-requires : goal.frame_length-requires
frame_length-requires c =
    let both = both_true _ _ c.if-good.true in
    let named = name_says _ (sym c.good_name.ensures ∙ both.0) in
    let formatted = format_says _ (sym c.good_format.ensures ∙ both.1) in
    (named.1, formatted.0)

pub returns-then-good : goal.returns-then-good
unfolding given_of is_good
returns-then-good c = simp (← c.good_name.ensures, ← c.good_format.ensures, c.if-good.true, c.frame_length.ensures)

pub returns : goal.returns
unfolding given_of is_good
returns c = simp (← c.good_name.ensures, ← c.good_format.ensures, c.if-good.false)
