-- A list by its places, a part of a list and of memory, and a list after a part of it was written.
use Rattle.std.specs.Prelude.{ℕ, zero, suc, ◌+◌, ◌-◌, ◌≡◌, min, List, [], ◌∷◌, ◌++◌, Bool, true, false, ◌&&◌, cond, length, take, drop, leb, eqb}
use Rattle.std.specs.Borrow.{Bor}
use Rattle.bytes_be.specs.declared.Place.{Place}

-- the values of f at `count` numbers, from `first` on
abbrev pub tabulate : {A : Type 0} → ℕ → ℕ → (ℕ → A) → List A
tabulate first zero f = []
tabulate first (suc count) f = f first ∷ tabulate (suc first) count f

-- whether a list of n elements holds `size` elements from place `at` on
abbrev pub holds : ℕ → ℕ → ℕ → Bool
holds n at size = leb (at + size) n

-- the `size` elements of xs from place `at` on
abbrev pub part : {A : Type 0} → List A → ℕ → ℕ → List A
part xs at size = take size (drop at xs)

-- the elements of xs from place `from` up to place `to`
abbrev pub between : {A : Type 0} → List A → ℕ → ℕ → List A
between xs from to = part xs from (to - from)

-- the elements of xs at a place
abbrev pub part_at : {A : Type 0} → List A → Place → List A
part_at xs place = part xs place.at place.length

-- r is the part of the memory s at a place, or as much of it as s has: the same block, the place's offset, or that of the end where the place lies
-- behind it, and so its bytes
pub record IsPartOf (s r : Bor (List ℕ)) (place : Place) : Type 0 where
  pub block : r.ref_ptr.0 ≡ s.ref_ptr.0
  pub start : r.ref_ptr.1 ≡ min place.at (length s.now) + s.ref_ptr.1
  pub bytes : r.now ≡ part_at s.now place

-- whether two lists of numbers are the same
unfoldable pub same : List ℕ → List ℕ → Bool
same [] [] = true
same [] (b ∷ others) = false
same (a ∷ rest) [] = false
same (a ∷ rest) (b ∷ others) = eqb a b && same rest others

-- out with ys written from place `at` on and nothing else changed; out itself where they do not all fit
unfoldable pub put_at : {A : Type 0} → List A → ℕ → List A → List A
put_at out at ys =
    cond (holds (length out) at (length ys)) (take at out ++ ys ++ drop (at + length ys) out) out
