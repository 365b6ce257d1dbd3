-- A run of one end that goes on: where both parts together leave it, and what is gathered of them. Assumes nothing.
use mathlib.Core.Path.{◌≡◌, refl, sym, ap, ◌∙◌}
use mathlib.Core.List.{List, [], ◌∷◌, ◌++◌, append_assoc}
use Rattle.machine.specs.Programs.{Program}
use Rattle.machine.specs.Runs.{Act, done_by, gathered_in, left_in}

module _ {A O : Type 0} (p : Program A O) where
  pub left_append : (self : A) (first more : List (Act O)) → left_in p self (first ++ more) ≡ left_in p (left_in p self first) more
  left_append self [] more = refl
  left_append self (act ∷ rest) more = left_append (done_by p self act).next rest more

  pub gathered_append : {B : Type 0} (each : A → Act O → List B) (self : A) (first more : List (Act O))
      → gathered_in p each self (first ++ more) ≡ gathered_in p each self first ++ gathered_in p each (left_in p self first) more
  gathered_append each self [] more = refl
  gathered_append {B = B} each self (act ∷ rest) more =
      let next : A = (done_by p self act).next in
      ap (λ (l : List B). each self act ++ l) (gathered_append each next rest more)
      ∙ sym (append_assoc (each self act) (gathered_in p each next rest) (gathered_in p each (left_in p next rest) more))
