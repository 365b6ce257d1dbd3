-- What a frame holds, with the fields that are left; its parts lie in the bytes. Assumes nothing.
use Rattle.std.specs.Prelude.{Option, Some, Ok, Err}
use Prim.Native.Nat.{ℕ, zero, suc, ◌+◌, ◌-◌, ◌≤◌}
use mathlib.Core.Path.{◌≡◌, refl, sym, ◌∙◌}
use mathlib.Core.List.{List, [], ◌∷◌}
use mathlib.Core.Bool.{Bool, true, false, cond}
use lib.ListN.{length}
use lib.Dec.{ltb, eqb}
use native.Mathlib.Omega.{arith}
use Rattle.bytes_be.specs.declared.Place.{Place}
use Rattle.wire.specs.declared.Field.{Field}
use Rattle.wire.specs.Fields.{place_of, Reading, field_at, and_behind, fields_within, fields_of}
use Rattle.wire.proofs.Readings.{Within, field_within}
use Rattle.open.specs.declared.Parts.{Parts}
use Rattle.open.specs.Open.{or_nowhere}
use Rattle.open.specs.Frame.{nothing, place_if, keep, kept, parts_of}

-- `whole` is what the frame holds, and is known to be what it holds with the fields that are left
module _ (left : List Reading) (parts whole : Parts) (known : whole ≡ kept left parts) where
  pub kept_done : left ≡ [] → parts ≡ whole
  unfolding kept
  kept_done e = sym (known ∙ rw e)

  pub kept_on : (read : Reading) (rest : List Reading) → left ≡ read ∷ rest → (field : Field) → read ≡ Ok field → whole ≡ kept rest (keep parts field)
  unfolding kept
  kept_on read rest is field ok = known ∙ rw (is, ok)

-- ---- the parts of a frame lie in the bytes

abbrev Lies : List ℕ → Place → Type 0
Lies s place = place.at + place.length ≤ length s

pub record Placed (s : List ℕ) (parts : Parts) : Type 0 where
  pub name : Lies s (or_nowhere parts.name)
  pub format : Lies s (or_nowhere parts.format)
  pub parameters : Lies s (or_nowhere parts.parameters)

module _ (s : List ℕ) (to : ℕ) where
  place_if_lies : (number at : ℕ) (field : Field) (otherwise : Option Place) → Within s at to field → Lies s (or_nowhere otherwise)
      → Lies s (or_nowhere (place_if number field otherwise))
  unfolding place_if
  place_if_lies number at field otherwise w h = pick (eqb field.number number) (let e = w.ends in let i = w.inside in let l = w.there in omega arith) h
    where
      pick : (t : Bool) → Lies s (place_of field) → Lies s (or_nowhere otherwise) → Lies s (or_nowhere (cond t (Some (place_of field)) otherwise))
      pick true f g = f
      pick false f g = g

  kept_lies : (left at : ℕ) (parts : Parts) → Placed s parts → Placed s (kept (fields_within left s to at) parts)
  unfolding kept keep fields_within
  kept_lies zero at parts h = h
  kept_lies (suc left) at parts h = go (ltb at to) (field_at s at to) refl (kept_lies left)
    where
      go : (t : Bool) (r : Reading) → field_at s at to ≡ r → ((next : ℕ) (parts : Parts) → Placed s parts → Placed s (kept (fields_within left s to next) parts))
          → Placed s (kept (cond t (and_behind (fields_within left s to) r) []) parts)
      go false r e behind = h
      go true (Err why) e behind = h
      go true (Ok field) e behind =
          let w = field_within s at to field e in
          behind field.next (keep parts field) (record {
            name = place_if_lies 1 at field parts.name w h.name;
            format = place_if_lies 3 at field parts.format w h.format;
            parameters = place_if_lies 4 at field parts.parameters w h.parameters;
          })

pub parts_lie : (s : List ℕ) (from to : ℕ) → Placed s (parts_of s from to)
unfolding parts_of fields_of
parts_lie s from to = kept_lies s to (to - from) from nothing (record { name = omega arith; format = omega arith; parameters = omega arith })
