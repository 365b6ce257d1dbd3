-- The check of a Value, an entry, a Struct and a list meets its contract: siblings by a loop, nesting by calls with fewer levels left.
-- Assumes nothing.
use mathlib.Core.Path.{ap, ◌∙◌}
use borrow.Author.Rules.{rules}
use borrow.Author.Tests.{lt-ltb, le-ltb, eq-eqb, ne_eqb}
use Rattle.wire.specs.Fields.{fields_left}
use Rattle.params.specs.Rules.{value_field, value_check, entry_field, entry_check, item_field, items_check}
use Rattle.params.proofs.Walks.{walk_done, walk_refused, walk_stopped, walk_on, inside_none, inside_more, passed}
use Rattle.params.proofs.+nesting.Goals as goal

pub check_entry-loop-read-init : goal.check_entry-loop-read-init
unfolding entry_check
check_entry-loop-read-init t c =
    rw (ap fields_left c.into_iter-read-iterator.ensures.into_iter_gives ∙ c.fields_of-read-items.ensures.left)

pub check_entry-returns-in_err-field : goal.check_entry-returns-in_err-field
check_entry-returns-in_err-field t c = let h = walk_refused _ _ _ _ _ _ c.loop-read.invariant _ _ c.in-Some.ensures.steps.first _ c.in_err-field.was in search rules

pub check_entry-returns-in_err-entry_field : goal.check_entry-returns-in_err-entry_field
check_entry-returns-in_err-entry_field t c = let h = walk_stopped _ _ _ _ _ _ c.loop-read.invariant _ _ c.in-Some.ensures.steps.first _ c.in_ok-field.was _ c.entry_field.ensures _ c.in_err-entry_field.was in search rules

pub check_entry-loop-read-preserved : goal.check_entry-loop-read-preserved
check_entry-loop-read-preserved t c = walk_on _ _ _ _ _ _ c.loop-read.invariant _ _ c.in-Some.ensures.steps.first _ c.in_ok-field.was _ c.entry_field.ensures c.in_ok-entry_field.was

pub check_entry-returns : goal.check_entry-returns
check_entry-returns t c = c.entry_done.ensures ∙ walk_done _ _ _ _ _ _ c.loop-read.invariant c.in-None.ensures.steps.first.0

pub check_items-loop-read-init : goal.check_items-loop-read-init
unfolding items_check
check_items-loop-read-init t c = rw (ap fields_left c.into_iter-read-iterator.ensures.into_iter_gives ∙ c.fields_of-read-items.ensures.left)

pub check_items-returns-in_err-field : goal.check_items-returns-in_err-field
check_items-returns-in_err-field t c = let h = walk_refused _ _ _ _ _ _ c.loop-read.invariant _ _ c.in-Some.ensures.steps.first _ c.in_err-field.was in search rules

pub check_items-returns-in_err-item_field : goal.check_items-returns-in_err-item_field
check_items-returns-in_err-item_field t c = let h = walk_stopped _ _ _ _ _ _ c.loop-read.invariant _ _ c.in-Some.ensures.steps.first _ c.in_ok-field.was _ c.item_field.ensures _ c.in_err-item_field.was in search rules

pub check_items-loop-read-preserved : goal.check_items-loop-read-preserved
check_items-loop-read-preserved t c = walk_on _ _ _ _ _ _ c.loop-read.invariant _ _ c.in-Some.ensures.steps.first _ c.in_ok-field.was _ c.item_field.ensures c.in_ok-item_field.was

pub check_items-returns : goal.check_items-returns
check_items-returns t c = walk_done _ _ _ _ _ _ c.loop-read.invariant c.in-None.ensures.steps.first.0

pub check_value-loop-read-init : goal.check_value-loop-read-init
unfolding value_check
check_value-loop-read-init t c =
    rw (ap fields_left c.into_iter-read-iterator.ensures.into_iter_gives ∙ c.fields_of-read-items.ensures.left)

pub check_value-returns-in_err-field : goal.check_value-returns-in_err-field
check_value-returns-in_err-field t c = let h = walk_refused _ _ _ _ _ _ c.loop-read.invariant _ _ c.in-Some.ensures.steps.first _ c.in_err-field.was in search rules

pub check_value-returns-in_err-value_field : goal.check_value-returns-in_err-value_field
check_value-returns-in_err-value_field t c = let h = walk_stopped _ _ _ _ _ _ c.loop-read.invariant _ _ c.in-Some.ensures.steps.first _ c.in_ok-field.was _ c.value_field.ensures _ c.in_err-value_field.was in search rules

pub check_value-loop-read-preserved : goal.check_value-loop-read-preserved
check_value-loop-read-preserved t c = walk_on _ _ _ _ _ _ c.loop-read.invariant _ _ c.in-Some.ensures.steps.first _ c.in_ok-field.was _ c.value_field.ensures c.in_ok-value_field.was

pub check_value-returns : goal.check_value-returns
check_value-returns t c = c.lacking.ensures ∙ walk_done _ _ _ _ _ _ c.loop-read.invariant c.in-None.ensures.steps.first.0

pub entry_field-returns-then-field-eq1 : goal.entry_field-returns-then-field-eq1
unfolding entry_field
entry_field-returns-then-field-eq1 t c = passed _ _ _ (rw c.has.ensures at c.bytes_rule.ensures) c.in_ok-bytes_rule.was (simp (eq-eqb _ _ c.if-field-eq1.true) c.key_rule.ensures)

pub entry_field-returns : goal.entry_field-returns
unfolding entry_field
entry_field-returns t c = passed _ _ _ (rw c.has.ensures at c.bytes_rule.ensures) c.in_ok-bytes_rule.was (simp (ne_eqb _ _ c.if-field-eq1.false) c.check_value.ensures)

pub item_field-returns-then-list : goal.item_field-returns-then-list
unfolding item_field
item_field-returns-then-list t c = passed _ _ _ c.bytes_rule.ensures c.in_ok-bytes_rule.was (simp c.if-list.true c.check_value.ensures)

pub item_field-returns : goal.item_field-returns
unfolding item_field
item_field-returns t c = passed _ _ _ c.bytes_rule.ensures c.in_ok-bytes_rule.was (simp c.if-list.false c.check_entry.ensures)

pub value_field-returns-then-field-lt5 : goal.value_field-returns-then-field-lt5
unfolding value_field
value_field-returns-then-field-lt5 t c = passed _ _ _ c.value_rule.ensures c.in_ok-value_rule.was (simp (lt-ltb _ _ c.if-field-lt5.true))

pub value_field-returns-then-levels-eq0 : goal.value_field-returns-then-levels-eq0
unfolding value_field
value_field-returns-then-levels-eq0 t c = passed _ _ _ c.value_rule.ensures c.in_ok-value_rule.was (simp (le-ltb _ _ c.if-field-lt5.false) (inside_none _ _ _ c.if-levels-eq0.true))

pub value_field-returns : goal.value_field-returns
unfolding value_field
value_field-returns t c = passed _ _ _ c.value_rule.ensures c.in_ok-value_rule.was (simp (le-ltb _ _ c.if-field-lt5.false) (c.check_items.ensures ∙ inside_more _ _ _ c.if-levels-eq0.false))
