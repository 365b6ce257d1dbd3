-- `params::place_in` meets its contract: no field that the loop has passed has the number. Assumes nothing.
use mathlib.Core.Path.{ap, ◌∙◌}
use borrow.Author.Tests.{eq-eqb, ne_eqb}
use Rattle.wire.specs.Fields.{fields_left}
use Rattle.params.specs.Message.{place_in}
use Rattle.params.proofs.Finds.{search_done, search_refused, search_here, search_on}
use Rattle.params.proofs.place_in.Goals as goal

pub loop-read-init : goal.loop-read-init
unfolding place_in
loop-read-init c =
    rw (ap fields_left c.into_iter-read-iterator.ensures.into_iter_gives ∙ c.fields_of-read-items.ensures.left)

pub returns-then-field-number : goal.returns-then-field-number
returns-then-field-number c = c.payload.ensures ∙ search_here _ _ _ _ _ c.loop-read.invariant _ _ c.in-Some.ensures.steps.first _ c.in-Ok.is (eq-eqb _ _ c.if-field-number.true)

pub loop-read-preserved : goal.loop-read-preserved
loop-read-preserved c = search_on _ _ _ _ _ c.loop-read.invariant _ _ c.in-Some.ensures.steps.first _ c.in-Ok.is (ne_eqb _ _ c.if-field-number.false)

pub returns-in_default : goal.returns-in_default
returns-in_default c = search_refused _ _ _ _ _ c.loop-read.invariant _ _ c.in-Some.ensures.steps.first c.in_default.not-Ok

pub returns-in-None : goal.returns-in-None
returns-in-None c = search_done _ _ _ _ _ c.loop-read.invariant c.in-None.ensures.steps.first.0
