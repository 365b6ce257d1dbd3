-- `probe::said_by` meets its contract, by the wire type. Assumes nothing.
use native.Mathlib.Omega.{arith}
use borrow.Author.Tests.{eq-eqb, ne_eqb}
use Rattle.probe.proofs.said_by.Goals as goal

pub returns-then-field-ne2 : goal.returns-then-field-ne2
returns-then-field-ne2 c = simp (ne_eqb _ _ c.if-field-ne2.true)

pub returns-then-field : goal.returns-then-field
returns-then-field c = simp (eq-eqb _ _ c.if-field-ne2.false) (omega arith)

pub returns : goal.returns
returns c = simp (eq-eqb _ _ c.if-field-ne2.false)
