-- What a readable message holds: a Value has one field and no other, and the Value of a term that is found is readable, also as a part of
-- its own. Assumes nothing.
use Rattle.std.specs.Prelude.{Option, Some, None, Ok, Err}
use Prim.Native.Nat.{ℕ, zero, suc, ◌+◌, ◌-◌, ◌≤◌, ◌<◌}
use mathlib.Core.Path.{◌≡◌, refl, ap, subst}
use mathlib.Core.List.{List, [], ◌∷◌}
use mathlib.Core.Bool.{Bool, true, false, cond, not, ◌&&◌}
use lib.ListN.{length}
use lib.Dec.{ltb, leb, eqb}
use native.Mathlib.Omega.{arith}
use borrow.Author.Tests.{eq-eqb, ne_eqb, eqb-true, eqb-false, ltb-false, leb-true}
use Rattle.bytes_be.specs.Part.{part_at}
use Rattle.bytes_be.specs.declared.Place.{Place}
use Rattle.bytes_be.proofs.Tests.{both_true, clash}
use Rattle.wire.specs.declared.Kind.{Kind}
use Rattle.wire.specs.declared.Kind.TheVariants.{WireType, Repeated, BadText, Other}
use Rattle.wire.specs.declared.Field.{Field}
use Rattle.wire.specs.Fields.{place_of, Reading, field_at, and_behind, fields_within, fields_of}
use Rattle.wire.proofs.Readings.{field_within}
use Rattle.params.specs.Message.{Check, good, refuse_if, walk, first_of, place_in}
use Rattle.params.specs.Keys.{value_place, has_key, value_found, find_in, is_found}
use Rattle.params.specs.declared.Seen.{Seen}
use Rattle.params.specs.Rules.{value_wire, value_text, value_allowed, value_rule, value_field, value_move, value_done, value_check, bytes_rule, key_rule, seen_of, entry_field, entry_move, entry_done, entry_check, item_field, item_judge, item_move, item_done, items_check, inside, struct_check, alone_check}
use Rattle.params.proofs.Finds.{find_lies}
use Rattle.params.proofs.Alone.{refused_not_good, then_good, alone_implies}

pub refuse_good : (t : Bool) (kind : Kind) (at : ℕ) (behind : Check) → refuse_if t kind at behind ≡ good → (t ≡ false) × (behind ≡ good)
refuse_good true kind at behind e = refused_not_good e
refuse_good false kind at behind e = (refl, e)

-- ---- every field that is read has a number, and its payload an end behind its start

abbrev Sound : List Reading → Type 0
Sound [] = Unit {0}
Sound (Err why ∷ rest) = Unit {0}
Sound (Ok field ∷ rest) = (0 < field.number) × (field.at ≤ field.next) × Sound rest

sound_within : (left : ℕ) (s : List ℕ) (to at : ℕ) → Sound (fields_within left s to at)
unfolding fields_within
sound_within zero s to at = tt
sound_within (suc left) s to at = go (ltb at to) (field_at s at to) refl (sound_within left s to)
  where
    go : (t : Bool) (r : Reading) → field_at s at to ≡ r → ((next : ℕ) → Sound (fields_within left s to next)) → Sound (cond t (and_behind (fields_within left s to) r) [])
    go false r e behind = tt
    go true (Err why) e behind = tt
    go true (Ok field) e behind = let w = field_within s at to field e in (w.counted, w.ends, behind field.next)

sound : (s : List ℕ) (from to : ℕ) → Sound (fields_of s from to)
unfolding fields_of
sound s from to = sound_within (to - from) s to from

-- ---- "A Value holds exactly one of" its kinds

true_not_false : {A : Type 0} → true ≡ false → A
true_not_false e = clash cc

not_one : (n : ℕ) → 0 < n → n ≤ 2 → (n ≡ 1 → ⊥) → n ≡ 2
not_one zero h l other = absurd (omega arith)
not_one (suc zero) h l other = absurd (other refl)
not_one (suc (suc n)) h l other = omega arith

-- the one field of a readable Value
pub record OneField (fields : List Reading) : Type 0 where
  pub field : Field
  pub only : fields ≡ Ok field ∷ []
  pub counted : 0 < field.number
  pub kind : field.number ≤ 6

not_false : (t : Bool) → not t ≡ false → t ≡ true
not_false true e = refl
not_false false e = clash cc

module _ (inner : Field → Check) (s : List ℕ) where
  -- what the rule says of a good field behind `held`
  rule_says : (held : ℕ) (field : Field) → value_field inner s held field ≡ good → (held ≡ 0) × (value_allowed field.number field.value ≡ true)
  unfolding value_field value_rule
  rule_says held field e =
      let at = field.tag in
      let wire = not (value_wire field.number field.wire) in
      let twice = eqb held field.number in
      let text = not (value_text s field.number field.at field.next) in
      let other = not (eqb held 0 && value_allowed field.number field.value) in
      let behind-text = refuse_if other Other at good in
      let behind-twice = refuse_if text BadText at behind-text in
      let behind-wire = refuse_if twice Repeated at behind-twice in
      let first = refuse_good wire WireType at behind-wire (then_good (value_rule s held field) (cond (ltb field.number 5) good (inner field)) e).0 in
      let second = refuse_good twice Repeated at behind-twice first.1 in
      let third = refuse_good text BadText at behind-text second.1 in
      let last = refuse_good other Other at good third.1 in
      let both = both_true (eqb held 0) (value_allowed field.number field.value) (not_false (eqb held 0 && value_allowed field.number field.value) last.0) in
      (eqb-true held 0 both.0, both.1)

  -- behind a field of a readable Value there is none
  nothing_behind : (to held : ℕ) (fields : List Reading) → 0 < held → walk (value_field inner s) value_move (value_done to) fields held ≡ good → fields ≡ []
  unfolding walk
  nothing_behind to held [] h e = refl
  nothing_behind to held (Err why ∷ rest) h e = refused_not_good e
  nothing_behind to held (Ok field ∷ rest) h e =
      let says = (rule_says held field (then_good (value_field inner s held field) _ e).0).0 in
      absurd (omega arith)

  one_field_of : (to : ℕ) (fields : List Reading) → Sound fields → walk (value_field inner s) value_move (value_done to) fields 0 ≡ good → OneField fields
  unfolding walk value_allowed
  one_field_of to [] h e = refused_not_good e
  one_field_of to (Err why ∷ rest) h e = refused_not_good e
  one_field_of to (Ok field ∷ rest) h e =
      let both = then_good (value_field inner s 0 field) _ e in
      let says = (rule_says 0 field both.0).1 in
      record {
        field = field;
        only = ap (λ (l : List Reading). Ok field ∷ l) (nothing_behind to field.number rest h.0 both.1);
        counted = h.0;
        kind = small (eqb field.number 1) refl (eqb field.number 4) refl says;
      }
    where
      small : (a : Bool) → eqb field.number 1 ≡ a → (b : Bool) → eqb field.number 4 ≡ b
          → cond a (eqb field.value 0) (cond b (leb field.value 1) (leb field.number 6)) ≡ true → field.number ≤ 6
      small true p b q says = let one = eqb-true field.number 1 p in omega arith
      small false p true q says = let four = eqb-true field.number 4 q in omega arith
      small false p false q says = leb-true field.number 6 says

  pub one_field : (from to : ℕ) → value_check inner s from to ≡ good → OneField (fields_of s from to)
  unfolding value_check
  one_field from to e = one_field_of to (fields_of s from to) (sound s from to) e

  -- ---- the Value of an entry, and of a term

  abbrev Readable : Place → Type 0
  Readable place = value_check inner s place.at (place.at + place.length) ≡ good

  readable_by : (field : Field) → field.at ≤ field.next → value_check inner s field.at field.next ≡ good → Readable (place_of field)
  readable_by field h e = let whole : field.at + (field.next - field.at) ≡ field.next = omega arith in rw whole e

  module _ (from tag to : ℕ) where
    lacks : (seen : Seen) → seen.value ≡ false → entry_done s from tag to seen ≡ good → {A : Type 0} → A
    unfolding entry_done
    lacks seen h e =
        let last = (refuse_good (not seen.key && is_found (find_in s from tag [])) Repeated to (refuse_if (not seen.value) Other to good) e).1 in
        let has = (refuse_good (not seen.value) Other to good last).0 in
        let z : ◌≡◌ {A = Bool} true false = rw h at has in
        absurd (true_not_false z)

    entry_value : (fields : List Reading) → Sound fields → (seen : Seen) → seen.value ≡ false
        → walk (entry_field inner s from tag) entry_move (entry_done s from tag to) fields seen ≡ good → Readable (place_in 2 fields)
    unfolding walk entry_field bytes_rule place_in first_of
    entry_value [] h seen none e = lacks seen none e
    entry_value (Err why ∷ rest) h seen none e = refused_not_good e
    entry_value (Ok field ∷ rest) h seen none e =
        let both = then_good (entry_field inner s from tag seen field) _ e in
        let rule = then_good (bytes_rule 2 (seen_of seen field.number) field) _ both.0 in
        go (eqb field.number 1) refl rule.0 rule.1 both.1 (entry_value rest h.2)
      where
        go : (t : Bool) → eqb field.number 1 ≡ t → bytes_rule 2 (seen_of seen field.number) field ≡ good
            → cond t (key_rule s from tag field) (value_check inner s field.at field.next) ≡ good
            → walk (entry_field inner s from tag) entry_move (entry_done s from tag to) rest (entry_move seen field) ≡ good
            → ((seen : Seen) → seen.value ≡ false → walk (entry_field inner s from tag) entry_move (entry_done s from tag to) rest seen ≡ good → Readable (place_in 2 rest))
            → Readable (cond (eqb field.number 2) (place_of field) (place_in 2 rest))
        go true p rule held walked behind =
            let one = eqb-true field.number 1 p in
            rw (ne_eqb field.number 2 (λ e. absurd (omega arith))) (behind (entry_move seen field) (rw (none, p) refl) walked)
        go false p rule held walked behind =
            let at = field.tag in
            let other = refuse_if (ltb 2 field.number) Other at good in
            let twice = refuse_if (seen_of seen field.number) Repeated at other in
            let first = refuse_good (leb field.number 2 && not (eqb field.wire 2)) WireType at twice rule in
            let second = refuse_good (seen_of seen field.number) Repeated at other first.1 in
            let most = ltb-false 2 field.number (refuse_good (ltb 2 field.number) Other at good second.1).0 in
            let some = h.0 in
            let two : field.number ≡ 2 = not_one field.number some most (eqb-false field.number 1 p) in
            rw (eq-eqb field.number 2 two) (readable_by field h.1 held)

  item_value : (from : ℕ) (field : Field) → item_field inner s false from field ≡ good → Readable (value_place s field.at field.next)
  unfolding item_field entry_check value_place
  item_value from field e =
      let entry = (then_good (bytes_rule 1 false field) (entry_check inner s from field.tag field.at field.next) e).1 in
      entry_value from field.tag field.next (fields_of s field.at field.next) (sound s field.at field.next) (record { key = false; value = false }) refl entry

  abbrev FoundReadable : Option Place → Type 0
  FoundReadable (Some place) = Readable place
  FoundReadable None = Unit {0}

  found_among : (from : ℕ) (key : List ℕ) (fields : List Reading) → walk (item_judge inner s false from) item_move item_done fields tt ≡ good
      → FoundReadable (first_of (has_key s key) (value_found s) None fields)
  unfolding walk first_of
  found_among from key [] e = tt
  found_among from key (Err why ∷ rest) e = refused_not_good e
  found_among from key (Ok field ∷ rest) e =
      let both = then_good (item_field inner s false from field) _ e in
      pick (has_key s key field) (item_value from field both.0) (found_among from key rest both.1)
    where
      pick : (t : Bool) → Readable (value_place s field.at field.next) → FoundReadable (first_of (has_key s key) (value_found s) None rest)
          → FoundReadable (cond t (value_found s field) (first_of (has_key s key) (value_found s) None rest))
      pick true f g = f
      pick false f g = g

found_in : (inner : Field → Check) (s key : List ℕ) → items_check inner s false 0 (length s) ≡ good → FoundReadable inner s (find_in s 0 (length s) key)
unfolding items_check find_in
found_in inner s key good = found_among inner s 0 key (fields_of s 0 (length s)) good

-- the Value of a term that is found in a readable Struct is readable alone
pub found_readable : (s key : List ℕ) (place : Place) → struct_check s 0 (length s) ≡ good → find_in s 0 (length s) key ≡ Some place → alone_check (part_at s place) ≡ good
unfolding struct_check alone_check
found_readable s key place good e =
    alone_implies s place.at place.length (find_lies s 0 (length s) key place e) 7 8 (omega arith)
    (subst (FoundReadable (inside 7 s) s) e (found_in (inside 7 s) s key good))
