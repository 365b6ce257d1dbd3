-- A message that is judged field by field, over the fields that are left. Assumes nothing.
use Rattle.std.specs.Prelude.{Ok, Err}
use Prim.Native.Nat.{ℕ, zero, suc, ◌-◌}
use mathlib.Core.Path.{◌≡◌, refl, sym, ◌∙◌}
use mathlib.Core.List.{List, [], ◌∷◌}
use lib.Dec.{eqb}
use native.Mathlib.Numerals.{sub-one}
use Rattle.wire.specs.declared.Kind.TheVariants.{TooDeep}
use Rattle.wire.specs.declared.Fault.{Fault}
use Rattle.wire.specs.declared.Field.{Field}
use Rattle.wire.specs.Fields.{Reading}
use Rattle.params.specs.Message.{Check, good, fault, and_then, walk}
use Rattle.params.specs.Rules.{items_check, inside}

-- `whole` is what the message comes to, and is known to be what the fields that are left come to, after what was seen
module _ {Seen : Type 0} (judge : Seen → Field → Check) (move : Seen → Field → Seen) (done : Seen → Check) (left : List Reading) (seen : Seen) (whole : Check)
    (known : whole ≡ walk judge move done left seen) where
  pub walk_done : left ≡ [] → done seen ≡ whole
  unfolding walk
  walk_done e = sym (known ∙ rw e)

  module _ (read : Reading) (rest : List Reading) (is : left ≡ read ∷ rest) where
    pub walk_refused : (why : Fault) → read ≡ Err why → Err why ≡ whole
    unfolding walk
    walk_refused why e = sym (known ∙ rw (is, e))

    module _ (field : Field) (ok : read ≡ Ok field) (check : Check) (judged : check ≡ judge seen field) where
      step : whole ≡ and_then (judge seen field) (walk judge move done rest (move seen field))
      unfolding walk
      step = known ∙ rw (is, ok)

      pub walk_stopped : (why : Fault) → check ≡ Err why → check ≡ whole
      walk_stopped why e =
          let stops : judge seen field ≡ Err why = sym judged ∙ e in
          e ∙ sym (step ∙ rw stops)

      pub walk_on : check ≡ good → whole ≡ walk judge move done rest (move seen field)
      walk_on e =
          let passes : judge seen field ≡ good = sym judged ∙ e in
          step ∙ rw passes

-- ---- a level further in

pub inside_none : (levels : ℕ) (s : List ℕ) (field : Field) → levels ≡ 0 → fault TooDeep field.tag ≡ inside levels s field
unfolding inside
inside_none levels s field h = rw h

pub inside_more : (levels : ℕ) (s : List ℕ) (field : Field) → (levels ≡ 0 → ⊥)
    → items_check (inside (levels - 1) s) s (eqb field.number 6) field.at field.next ≡ inside levels s field
unfolding inside
inside_more zero s field n = absurd (n refl)
inside_more (suc levels) s field n = rw sub-one

-- ---- one check behind another

module _ (r check behind : Check) (is : r ≡ check) where
  pub stopped : (why : Fault) → r ≡ Err why → r ≡ and_then check behind
  stopped why e =
      let stops : check ≡ Err why = sym is ∙ e in
      e ∙ sym (rw stops)

  pub passed : r ≡ good → {result : Check} → result ≡ behind → result ≡ and_then check behind
  passed e h =
      let passes : check ≡ good = sym is ∙ e in
      rw passes h
