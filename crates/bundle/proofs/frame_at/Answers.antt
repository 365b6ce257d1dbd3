-- `bundle::frame_at` meets its contract: a bundle with contents is good, and its frames stand where the lengths say.
-- Assumes nothing.
use Rattle.std.proofs.Common.{sym, ◌∙◌}
use borrow.Author.Tests.{lt-ltb, le-ltb}
use Rattle.bundle.specs.Reading.{frame_of, start_of}
use Rattle.bundle.proofs.Sums.{contents_told, contents_none}
use Rattle.bundle.proofs.frame_at.Goals as goal

pub returns-in_default : goal.returns-in_default
unfolding frame_of
returns-in_default c = simp (contents_none _ (sym c.contents_of.ensures ∙ c.in_default.is))

pub returns-then-count-index : goal.returns-then-count-index
unfolding frame_of
returns-then-count-index c =
    let good = (contents_told _ _ (sym c.contents_of.ensures ∙ c.in-Ok.is)).whole in
    simp (good.is-good, good.counts, le-ltb _ _ c.if-count-index.true)

pub returns : goal.returns
unfolding frame_of start_of
returns c =
    let good = (contents_told _ _ (sym c.contents_of.ensures ∙ c.in-Ok.is)).whole in
    simp (good.is-good, good.counts, lt-ltb _ _ c.if-count-index.false, c.lengths_before.ensures.0, c.length_of.ensures)
