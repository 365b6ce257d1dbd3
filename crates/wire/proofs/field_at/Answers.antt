-- `wire::field_at` meets its contract, by what its tag says. Assumes nothing.
use mathlib.Core.Path.{refl, ◌∙◌}
use borrow.Author.Rules.{rules}
use Rattle.wire.proofs.Readings.{on_read, on_fault, read_within, field_behind, field_tag}
use Rattle.wire.proofs.field_at.Goals as goal

pub returns-then-s-end : goal.returns-then-s-end
returns-then-s-end c = field_behind _ _ _ c.if-s-end.true refl

pub payload_at-requires : goal.payload_at-requires
payload_at-requires c = ((read_within _ _ _ c.varint_at.ensures c.in-Ok.is).1, search rules)

pub returns-then-legal : goal.returns-then-legal
returns-then-legal c = field_tag _ _ _ c.if-s-end.false (c.payload_at.ensures ∙ simp c.if-legal.true refl ∙ on_read _ _ c.varint_at.ensures c.in-Ok.is)

pub returns-else-legal : goal.returns-else-legal
returns-else-legal c = field_tag _ _ _ c.if-s-end.false (simp c.if-legal.false refl ∙ on_read _ _ c.varint_at.ensures c.in-Ok.is)

pub returns-in-Err : goal.returns-in-Err
returns-in-Err c = field_tag _ _ _ c.if-s-end.false (on_fault _ _ c.varint_at.ensures c.in-Err.is)
