-- `wire::Fields::next` meets its contract: the field that it gives is the first of those left, and a fault the last. Assumes nothing.
use mathlib.Core.Path.{refl, ap}
use lib.ListN.{length}
use native.Mathlib.Omega.{arith}
use borrow.Author.Rules.{rules}
use Rattle.wire.proofs.Readings.{no_fields, first_field, first_fault}
use Rattle.wire.proofs.FieldsIterator.next.Goals as goal
use Rattle.wire.proofs.FieldsIterator.next.Goals.{in-Ok, in-Err}

pub returns-then-self-clause-steps : goal.returns-then-self-clause-steps
returns-then-self-clause-steps c = let none = no_fields _ _ _ c.if-self.true in record { first = (none, none); left = refl }

pub returns-clause-steps : goal.returns-clause-steps
returns-clause-steps c = elim c.match-read.branch [
  | in-Ok w ↦ record {
    first = rw (w.read-is, w.self-is) (first_field _ _ _ c.if-self.false _ c.field_at-read.ensures _ w.in-Ok.is);
    left = rw (w.read-is, w.self-is) refl;
  }
  | in-Err w ↦
      let to = c.args.self.now.to in
      record {
        first = rw (w.read-is, w.self-is, w.in-Err.is, no_fields c.args.self.now.s.now to to (omega arith)) (first_fault _ _ _ c.if-self.false _ c.field_at-read.ensures _ w.in-Err.is);
        left = rw (w.read-is, w.self-is, w.in-Err.is) refl;
      }
]

pub returns-clause-goes : goal.returns-clause-goes
returns-clause-goes c = let shorter = ap length (returns-clause-steps c).first in search rules
