-- `open::readable` meets its contract: the fields that the loop has passed are good, and kept. Assumes nothing.
use mathlib.Core.Path.{sym, ap, ◌∙◌}
use borrow.Author.Rules.{rules}
use Rattle.wire.specs.Fields.{fields_left}
use Rattle.params.proofs.Walks.{walk_done, walk_refused, walk_stopped, walk_on}
use Rattle.open.specs.Frame.{frame_check, parts_of}
use Rattle.open.proofs.Kept.{kept_done, kept_on, parts_lie}
use Rattle.open.proofs.Stages.{unreadable, read_whole}
use Rattle.open.proofs.readable.Goals as goal

pub loop-read-init : goal.loop-read-init
unfolding frame_check parts_of
loop-read-init c =
    let all = ap fields_left c.into_iter-read-iterator.ensures.into_iter_gives ∙ c.fields_of-read-items.ensures.left in
    (rw all, rw all)

pub returns-in_err-field : goal.returns-in_err-field
returns-in_err-field c = let h = unreadable _ _ _ _ (walk_refused _ _ _ _ _ _ c.loop-read.invariant.0 _ _ c.in-Some.ensures.steps.first _ c.in_err-field.was) in search rules

pub returns-in_err-frame_field : goal.returns-in_err-frame_field
returns-in_err-frame_field c =
    let stops = walk_stopped _ _ _ _ _ _ c.loop-read.invariant.0 _ _ c.in-Some.ensures.steps.first _ c.in_ok-field.was _ c.frame_field.ensures _ c.in_err-frame_field.was in
    let h = unreadable _ _ _ _ (sym c.in_err-frame_field.was ∙ stops) in
    search rules

pub loop-read-preserved : goal.loop-read-preserved
loop-read-preserved c =
    let rest = c.in-Some.ensures.steps.first in
    let walked = walk_on _ _ _ _ _ _ c.loop-read.invariant.0 _ _ rest _ c.in_ok-field.was _ c.frame_field.ensures c.in_ok-frame_field.was in
    let held = kept_on _ _ _ c.loop-read.invariant.1 _ _ rest _ c.in_ok-field.was in
    rw c.keep-parts.ensures (walked, held)

pub opening_of-requires : goal.opening_of-requires
opening_of-requires c =
    let held = kept_done _ _ _ c.loop-read.invariant.1 c.in-None.ensures.steps.first.0 in
    rw held (parts_lie _ _ _).parameters

pub returns : goal.returns
returns c =
    let none = c.in-None.ensures.steps.first.0 in
    read_whole _ _ _ (walk_done _ _ _ _ _ _ c.loop-read.invariant.0 none) _ (kept_done _ _ _ c.loop-read.invariant.1 none) _ c.opening_of.ensures
