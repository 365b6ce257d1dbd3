-- A readable Value is answered as one of its six kinds, and so is the Value of every term that is found. Assumes nothing.
use Prim.Native.Nat.{ℕ, zero, suc, ◌≤◌, ◌<◌}
use mathlib.Core.Path.{◌≡◌, refl, ap, ◌∙◌}
use mathlib.Core.List.{List, [], ◌∷◌}
use mathlib.Core.Bool.{cond}
use lib.ListN.{length}
use lib.Dec.{eqb}
use native.Mathlib.Omega.{arith}
use Rattle.bytes_be.specs.Part.{part_at}
use Rattle.bytes_be.specs.declared.Place.{Place}
use Rattle.wire.specs.declared.Field.{Field}
use Rattle.wire.specs.Fields.{field_at}
use Rattle.wire.proofs.Front.{begins}
use Rattle.params.specs.Rules.{inside, alone_check}
use Rattle.params.proofs.Readable.{one_field, found_readable}
use Rattle.terms.specs.Value.{held_by, from_reading, value_at, if_good, value_of, value_number}
use Rattle.terms.specs.Lookup.{term_in, look_up}
use Rattle.params.specs.Message.{good, Check}
use Rattle.terms.proofs.Layers.{of_its_layer}

held_answered : (s : List ℕ) (field : Field) → 0 < field.number → field.number ≤ 6 → value_number (held_by s field) ≡ 0
unfolding held_by
held_answered s field h l = go field.number h l
  where
    go : (n : ℕ) → 0 < n → n ≤ 6 → value_number (held_by s (record { tag = field.tag; number = n; wire = field.wire; value = field.value; at = field.at; next = field.next })) ≡ 0
    go zero h l = absurd (omega arith)
    go (suc zero) h l = refl
    go (suc (suc zero)) h l = refl
    go (suc (suc (suc zero))) h l = refl
    go (suc (suc (suc (suc zero)))) h l = refl
    go (suc (suc (suc (suc (suc zero))))) h l = refl
    go (suc (suc (suc (suc (suc (suc zero)))))) h l = refl
    go (suc (suc (suc (suc (suc (suc (suc n))))))) h l = absurd (omega arith)

-- a readable Value is answered
pub readable_answered : (s : List ℕ) → alone_check s ≡ good → value_number (value_of s) ≡ 0
unfolding value_of value_at alone_check
readable_answered s passes =
    let one = one_field (inside 8 s) s 0 (length s) passes in
    let read = (begins s (length s) 0 one.field [] one.only).read in
    ap (λ (check : Check). value_number (if_good check (from_reading s (field_at s 0 (length s))))) passes
    ∙ ap (λ r. value_number (from_reading s r)) read
    ∙ held_answered s one.field one.counted one.kind

-- the Value of a term that is found is readable alone, and so it is answered
pub term_readable : (client defaults key : List ℕ) (layer : ℕ) (place : Place) → look_up (client ∷ defaults ∷ []) key ≡ term_in layer place
    → alone_check (part_at (cond (eqb layer 0) client defaults) place) ≡ good
term_readable client defaults key =
    of_its_layer (λ (s : List ℕ) (place : Place). alone_check (part_at s place) ≡ good) client defaults key (λ s there. found_readable s key there)

pub term_answered : (client defaults key : List ℕ) (layer : ℕ) (place : Place) → look_up (client ∷ defaults ∷ []) key ≡ term_in layer place
    → value_number (value_of (part_at (cond (eqb layer 0) client defaults) place)) ≡ 0
term_answered client defaults key layer place e =
    readable_answered (part_at (cond (eqb layer 0) client defaults) place) (term_readable client defaults key layer place e)
