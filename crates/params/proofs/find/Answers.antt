-- `params::find` meets its contract: no entry that the loop has passed has the key. Assumes nothing.
use Rattle.std.specs.Prelude.{Some}
use mathlib.Core.Path.{sym, ap, ◌∙◌}
use Rattle.wire.specs.Fields.{fields_left}
use Rattle.params.specs.Keys.{value_place, find_in}
use Rattle.params.proofs.Finds.{search_done, search_refused, search_here, search_on, field_read, no_field_read}
use Rattle.params.proofs.find.Goals as goal

pub loop-read-init : goal.loop-read-init
unfolding find_in
loop-read-init c = rw (ap fields_left c.into_iter-read-iterator.ensures.into_iter_gives ∙ c.fields_of-read-items.ensures.left)

pub returns-in_err-field : goal.returns-in_err-field
returns-in_err-field c =
    let unread = no_field_read _ (sym c.ok.ensures.value ∙ c.in_err-field.was) in
    c.from_residual.ensures ∙ search_refused _ _ _ _ _ c.loop-read.invariant _ _ c.in-Some.ensures.steps.first unread

pub returns-then-has_key : goal.returns-then-has_key
unfolding value_place
returns-then-has_key c =
    let read = field_read _ _ (sym c.ok.ensures.value ∙ c.in_ok-field.was) in
    ap Some c.place_in.ensures ∙ search_here _ _ _ _ _ c.loop-read.invariant _ _ c.in-Some.ensures.steps.first _ read (sym c.has_key.ensures ∙ c.if-has_key.true)

pub loop-read-preserved : goal.loop-read-preserved
loop-read-preserved c =
    let read = field_read _ _ (sym c.ok.ensures.value ∙ c.in_ok-field.was) in
    search_on _ _ _ _ _ c.loop-read.invariant _ _ c.in-Some.ensures.steps.first _ read (sym c.has_key.ensures ∙ c.if-has_key.false)

pub returns : goal.returns
returns c = search_done _ _ _ _ _ c.loop-read.invariant c.in-None.ensures.steps.first.0
