-- For the fields of a message one after the other: any two results which meet the contract, at the same arguments, coincide. Assumes nothing.
use Prim.Native.Nat.{ℕ}
use mathlib.Core.Path.{◌≡◌, refl, sym, ap, ◌∙◌}
use mathlib.Core.List.{List}
use Rattle.std.specs.Prelude.{Option, Some, None}
use Rattle.std.specs.Borrow.{Bor}
use Rattle.bytes_be.proofs.Determined.{coincide}
use Rattle.bytes_be.proofs.Tests.{clash}
use Rattle.wire.specs.declared.Fields.{Fields}
use Rattle.wire.specs.Fields.{Reading, begun_at, moved_by, NextAnswer}

pub fields_determined : (s : Bor (List ℕ)) (from to : ℕ) {fields fields' : Fields} → fields ≡ begun_at s from to → fields' ≡ begun_at s from to → fields ≡ fields'
fields_determined s from to one other = coincide one other

same_answer : {before after after' : Fields} (answer answer' : Option Reading) → NextAnswer before answer after → NextAnswer before answer' after' → answer ≡ answer'
same_answer None None one other = refl
same_answer None (Some read) one other = let none = one.first.0 in let some = other.first in clash cc
same_answer (Some read) None one other = let some = one.first in let none = other.first.0 in clash cc
same_answer (Some read) (Some read') one other = let first = one.first in let first' = other.first in cc

pub next_determined : {before after after' : Fields} {answer answer' : Option Reading} → NextAnswer before answer after → NextAnswer before answer' after'
    → (answer ≡ answer') × (after ≡ after')
next_determined {before} one other = let same = same_answer _ _ one other in (same, one.left ∙ ap (moved_by before) same ∙ sym other.left)
