-- `bytes_be::same` meets its contract: slices of two lengths differ, and those of one length are compared byte by byte or by words.
-- Assumes nothing.
use mathlib.Core.Path.{◌≡◌, ap, ◌∙◌}
use lib.ListN.{length}
use borrow.Author.Rules.{rules}
use Rattle.bytes_be.proofs.Sameness.{not_same, pointwise_same}
use Rattle.bytes_be.proofs.same.Goals as goal

pub returns-then-a-b : goal.returns-then-a-b
returns-then-a-b c =
    let a = c.args in
    let differ : length a.a.now ≡ length a.b.now → ⊥ = search rules in
    not_same a.a.now a.b.now (λ equal. differ (ap length equal))

pub returns-then-a-lt8 : goal.returns-then-a-lt8
returns-then-a-lt8 c = c.eq.ensures ∙ pointwise_same _ _
