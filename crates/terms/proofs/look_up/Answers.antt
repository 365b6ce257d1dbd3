-- `terms::look_up` meets its contract: the part handed back is that of the layer which has the term. Assumes nothing.
use Rattle.std.specs.Prelude.{Ok, Err}
use mathlib.Core.Path.{ap, ◌∙◌}
use borrow.Author.Tests.{eq-eqb, ne_eqb}
use Rattle.terms.specs.Lookup.{term_number}
use Rattle.terms.proofs.Layers.{lies_in_client, lies_in_defaults, part_of}
use Rattle.terms.proofs.look_up.Goals as goal

pub part_at-requires : goal.part_at-requires
part_at-requires c = lies_in_client c.args.client c.args.defaults _ _ c.term_of-answer.ensures _ _ c.in-Ok.is c.if-layer-eq0.true

pub returns-then-layer-eq0 : goal.returns-then-layer-eq0
returns-then-layer-eq0 c =
    let a = c.args in
    let is = c.term_of-answer.ensures in
    record { part = part_of a.client a.defaults _ _ is (Ok _) c.in-Ok.is _ (rw (eq-eqb _ 0 c.if-layer-eq0.true) c.part_at.ensures); told = c.number_of.ensures ∙ ap term_number is }

pub part_at-requires-in-Ok : goal.part_at-requires-in-Ok
part_at-requires-in-Ok c = lies_in_defaults c.args.client c.args.defaults _ _ c.term_of-answer.ensures _ _ c.in-Ok.is c.if-layer-eq0.false

pub returns-else-layer-eq0 : goal.returns-else-layer-eq0
returns-else-layer-eq0 c =
    let a = c.args in
    let is = c.term_of-answer.ensures in
    record { part = part_of a.client a.defaults _ _ is (Ok _) c.in-Ok.is _ (rw (ne_eqb _ 0 c.if-layer-eq0.false) c.part_at-in-Ok.ensures); told = c.number_of.ensures ∙ ap term_number is }

pub returns-in-Err : goal.returns-in-Err
returns-in-Err c =
    let a = c.args in
    let is = c.term_of-answer.ensures in
    record { part = part_of a.client a.defaults _ _ is (Err _) c.in-Err.is _ c.part_at-in-Err.ensures; told = c.number_of.ensures ∙ ap term_number is }
