-- A search for the first field of a kind, over the fields that are left; what is found lies in the bytes. Assumes nothing.
use Rattle.std.specs.Prelude.{Option, Some, None, Ok, Err}
use Rattle.std.specs.Result.{result_ok}
use Prim.Native.Nat.{ℕ, zero, suc, ◌+◌, ◌-◌, ◌≤◌}
use mathlib.Core.Path.{◌≡◌, refl, sym, ◌∙◌, subst}
use mathlib.Core.List.{List, [], ◌∷◌}
use mathlib.Core.Bool.{Bool, true, false, cond}
use lib.ListN.{length}
use lib.Dec.{ltb}
use native.Mathlib.Omega.{arith}
use Rattle.bytes_be.specs.declared.Place.{Place}
use Rattle.bytes_be.proofs.Tests.{clash}
use Rattle.wire.specs.declared.Field.{Field}
use Rattle.wire.specs.Fields.{place_of, Reading, field_at, and_behind, fields_within, fields_of}
use Rattle.wire.proofs.Readings.{Within, field_within}
use Rattle.params.specs.Message.{first_of, has_number, nowhere, place_in}
use Rattle.params.specs.Keys.{has_key, value_place, value_found, find_in}

-- `whole` is what the search comes to, and is known to be what it comes to over the fields that are left
module _ {A : Type 0} (test : Field → Bool) (answer : Field → A) (none : A) (left : List Reading) (whole : A)
    (known : whole ≡ first_of test answer none left) where
  pub search_done : left ≡ [] → none ≡ whole
  unfolding first_of
  search_done e = sym (known ∙ rw e)

  module _ (read : Reading) (rest : List Reading) (is : left ≡ read ∷ rest) where
    pub search_refused : ((field : Field) → read ≡ Ok field → ⊥) → none ≡ whole
    unfolding first_of
    search_refused unread = go read refl
      where
        go : (r : Reading) → read ≡ r → none ≡ whole
        go (Ok field) e = absurd (unread field e)
        go (Err why) e = sym (known ∙ rw (is, e))

    module _ (field : Field) (ok : read ≡ Ok field) where
      pub search_here : test field ≡ true → answer field ≡ whole
      unfolding first_of
      search_here e = sym (known ∙ rw (is, ok, e))

      pub search_on : test field ≡ false → whole ≡ first_of test answer none rest
      unfolding first_of
      search_on e = known ∙ rw (is, ok, e)

-- ---- a field that was read, or none, as an option

pub field_read : (read : Reading) (field : Field) → result_ok read ≡ Some field → read ≡ Ok field
field_read (Ok here) field e = cc
field_read (Err why) field e = clash cc

pub no_field_read : (read : Reading) → result_ok read ≡ None → (field : Field) → read ≡ Ok field → ⊥
no_field_read (Ok here) e field is = clash cc
no_field_read (Err why) e field is = clash cc

-- ---- what is found lies in the bytes

-- a search gives nothing, or what it makes of a field that lies within its message
module _ {A : Type 0} (P : A → Type 0) (test : Field → Bool) (answer : Field → A) (none : A) (s : List ℕ) (to : ℕ) (otherwise : P none)
    (each : (at : ℕ) (field : Field) → Within s at to field → P (answer field)) where
  search_gives : (left at : ℕ) → P (first_of test answer none (fields_within left s to at))
  unfolding first_of fields_within
  search_gives zero at = otherwise
  search_gives (suc left) at = go (ltb at to) (field_at s at to) refl (search_gives left)
    where
      here : (field : Field) → P (answer field) → (t : Bool) (rest : A) → P rest → P (cond t (answer field) rest)
      here field h true rest g = h
      here field h false rest g = g

      go : (t : Bool) (r : Reading) → field_at s at to ≡ r → ((next : ℕ) → P (first_of test answer none (fields_within left s to next)))
          → P (first_of test answer none (cond t (and_behind (fields_within left s to) r) []))
      go false r e behind = otherwise
      go true (Err why) e behind = otherwise
      go true (Ok field) e behind =
          here field (each at field (field_within s at to field e)) (test field) (first_of test answer none (fields_within left s to field.next)) (behind field.next)

abbrev Lies : List ℕ → Place → Type 0
Lies s place = place.at + place.length ≤ length s

place_lies : (number : ℕ) (s : List ℕ) (from to : ℕ) → Lies s (place_in number (fields_of s from to))
unfolding fields_of place_in
place_lies number s from to =
    search_gives (Lies s) (has_number number) place_of nowhere s to (omega arith)
    (λ at field w. let e = w.ends in let i = w.inside in let l = w.there in omega arith)
    (to - from)
    from

-- the same of a place that a call has found
pub lies : (number : ℕ) (s : List ℕ) (from to : ℕ) (place : Place) → place ≡ place_in number (fields_of s from to) → place.at + place.length ≤ length s
lies number s from to place e = subst (Lies s) (sym e) (place_lies number s from to)

abbrev FoundLies : List ℕ → Option Place → Type 0
FoundLies s (Some place) = Lies s place
FoundLies s None = Unit {0}

pub find_lies : (s : List ℕ) (from to : ℕ) (key : List ℕ) (place : Place) → find_in s from to key ≡ Some place → place.at + place.length ≤ length s
unfolding fields_of find_in value_place
find_lies s from to key place e =
    subst (FoundLies s) e
    (search_gives (FoundLies s) (has_key s key) (value_found s) None s to tt (λ at field w. place_lies 2 s field.at field.next) (to - from) from)
