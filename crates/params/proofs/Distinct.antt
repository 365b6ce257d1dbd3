-- "no key twice in one Struct": in a readable Struct the key of each entry differs from those of all entries in front of it. Assumes
-- nothing.
use Rattle.std.specs.Prelude.{None, Ok, Err}
use Prim.Native.Nat.{ℕ}
use mathlib.Core.Path.{◌≡◌, refl, sym, ◌∙◌}
use mathlib.Core.List.{List, [], ◌∷◌, ◌++◌, append_assoc}
use mathlib.Core.Bool.{Bool, true, false, cond, not, ◌&&◌}
use lib.Dec.{eqb}
use Rattle.bytes_be.proofs.Tests.{clash}
use Rattle.bytes_be.specs.Part.{part_at, between, same}
use Rattle.utf8.specs.Text.{well_formed}
use Rattle.wire.specs.declared.Kind.TheVariants.{Repeated, BadText, Other}
use Rattle.wire.specs.declared.Field.{Field}
use Rattle.wire.specs.Fields.{place_of, Reading, fields_of}
use Rattle.wire.proofs.Front.{fields_front}
use Rattle.params.specs.Message.{Check, good, refuse_if, walk, first_of, place_in}
use Rattle.params.specs.Keys.{key_of, has_key, value_found, find_in, is_found}
use Rattle.params.specs.declared.Seen.{Seen}
use Rattle.params.specs.Rules.{value_check, bytes_rule, key_rule, seen_of, entry_field, entry_move, entry_done, entry_check, item_field, item_judge, item_move, item_done, items_check, struct_check, inside}
use Rattle.params.proofs.Alone.{refused_not_good, then_good}
use Rattle.params.proofs.Readable.{refuse_good}

module _ (s : List ℕ) where
  -- none of these entries has the key
  abbrev pub Without : List ℕ → List Reading → Type 0
  Without key [] = Unit {0}
  Without key (Err why ∷ rest) = Unit {0}
  Without key (Ok field ∷ rest) = (same (key_of s field.at field.next) key ≡ false) × Without key rest

  -- each of these entries has a key that none in front of it has
  abbrev pub Apart : List Reading → List Reading → Type 0
  Apart front [] = Unit {0}
  Apart front (Err why ∷ rest) = Unit {0}
  Apart front (Ok field ∷ rest) = Without (key_of s field.at field.next) front × Apart (front ++ (Ok field ∷ [])) rest

  not_found : (key : List ℕ) (fields : List Reading) → is_found (first_of (has_key s key) (value_found s) None fields) ≡ false → Without key fields
  unfolding first_of
  not_found key [] e = tt
  not_found key (Err why ∷ rest) e = tt
  not_found key (Ok field ∷ rest) e = go (same (key_of s field.at field.next) key) refl e (not_found key rest)
    where
      go : (t : Bool) → same (key_of s field.at field.next) key ≡ t → is_found (cond t (value_found s field) (first_of (has_key s key) (value_found s) None rest)) ≡ false
          → (is_found (first_of (has_key s key) (value_found s) None rest) ≡ false → Without key rest)
          → (same (key_of s field.at field.next) key ≡ false) × Without key rest
      go true p e behind = clash cc
      go false p e behind = (p, behind e)

  module _ (inner : Field → Check) (from : ℕ) where
    -- the key of an entry that is good, be it met or lacking, is found nowhere in front of the entry
    entry_key : (tag to : ℕ) (fields : List Reading) (seen : Seen) → seen.key ≡ false
        → walk (entry_field inner s from tag) entry_move (entry_done s from tag to) fields seen ≡ good → is_found (find_in s from tag (part_at s (place_in 1 fields))) ≡ false
    unfolding walk entry_field key_rule entry_done place_in first_of
    entry_key tag to [] seen none e =
        let first = (refuse_good (not seen.key && is_found (find_in s from tag [])) Repeated to (refuse_if (not seen.value) Other to good) e).0 in
        rw none at first
    entry_key tag to (Err why ∷ rest) seen none e = refused_not_good e
    entry_key tag to (Ok field ∷ rest) seen none e =
        let both = then_good (entry_field inner s from tag seen field) _ e in
        let rule = then_good (bytes_rule 2 (seen_of seen field.number) field) _ both.0 in
        go (eqb field.number 1) refl rule.1 both.1 (entry_key tag to rest)
      where
        go : (t : Bool) → eqb field.number 1 ≡ t → cond t (key_rule s from tag field) (value_check inner s field.at field.next) ≡ good
            → walk (entry_field inner s from tag) entry_move (entry_done s from tag to) rest (entry_move seen field) ≡ good
            → ((seen : Seen) → seen.key ≡ false → walk (entry_field inner s from tag) entry_move (entry_done s from tag to) rest seen ≡ good → is_found (find_in s from tag (part_at s (place_in 1 rest))) ≡ false)
            → is_found (find_in s from tag (part_at s (cond t (place_of field) (place_in 1 rest)))) ≡ false
        go true p rule walked behind =
            let key = between s field.at field.next in
            (refuse_good (is_found (find_in s from tag key)) Repeated field.tag (refuse_if (not (well_formed key)) BadText field.tag good) rule).0
        go false p rule walked behind = behind (entry_move seen field) (rw (none, p) refl) walked

    item_key : (field : Field) → item_field inner s false from field ≡ good → is_found (find_in s from field.tag (key_of s field.at field.next)) ≡ false
    unfolding item_field entry_check key_of
    item_key field e =
        let entry = (then_good (bytes_rule 1 false field) (entry_check inner s from field.tag field.at field.next) e).1 in
        entry_key field.tag field.next (fields_of s field.at field.next) (record { key = false; value = false }) refl entry

    apart_from : (to : ℕ) (front fields : List Reading) → fields_of s from to ≡ front ++ fields → walk (item_judge inner s false from) item_move item_done fields tt ≡ good → Apart front fields
    unfolding walk find_in
    apart_from to front [] all e = tt
    apart_from to front (Err why ∷ rest) all e = tt
    apart_from to front (Ok field ∷ rest) all e =
        let both = then_good (item_field inner s false from field) _ e in
        let before = (fields_front s to front field rest from all).2 in
        let key = key_of s field.at field.next in
        (not_found key front (rw before at (item_key field both.0)), apart_from to (front ++ (Ok field ∷ [])) rest (all ∙ sym (append_assoc front (Ok field ∷ []) rest)) both.1)

-- a readable Struct has no key twice
pub keys_distinct : (s : List ℕ) (from to : ℕ) → struct_check s from to ≡ good → Apart s [] (fields_of s from to)
unfolding struct_check items_check
keys_distinct s from to good = apart_from s (inside 7 s) from to [] (fields_of s from to) refl good
