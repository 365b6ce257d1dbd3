-- Laws of parts of a list, and of a list after a part of it was written. Assumes nothing.
use mathlib.Core.Path.{◌≡◌, refl, sym, ap, ap₂, ◌∙◌}
use mathlib.Core.List.{List, [], ◌∷◌, ◌++◌, append_assoc, append-nil}
use mathlib.Core.Bool.{Bool, true, false}
use Prim.Native.Nat.{ℕ, zero, suc, ◌+◌, ◌-◌, ◌≤◌, ◌<◌}
use native.Mathlib.Nat.{add-zero}
use native.Mathlib.Numerals.{add-one}
use native.Mathlib.Omega.{arith}
use lib.ListN.{length, get_or, set, take, drop, length-append, length-drop, take-append-drop}
use lib.Seq.{take-add, take-append-le, drop-append-le, take-suc, take-take, take_at, drop_at, get_or-set_other, get_or-take, get_or-drop, length-take-le, drop-drop, take-length, paste, length-paste, sets, sets-eq}
use lib.Dec.{leb}
use borrow.Author.Tests.{le-leb, lt-leb, leb-true, leb-false}
use Rattle.bytes_be.specs.Part.{tabulate, holds, part, put_at}

-- the test for room, with no sum that could wrap
pub holds_less : (n at size : ℕ) → size ≤ n → leb at (n - size) ≡ holds n at size
holds_less n at size h = go (leb at (n - size)) refl
  where
    go : (t : Bool) → leb at (n - size) ≡ t → t ≡ holds n at size
    go true e = sym (le-leb (at + size) n (omega (arith, leb-true at (n - size) e)))
    go false e = sym (lt-leb (at + size) n (omega (arith, leb-false at (n - size) e)))

module _ {A : Type 0} (f : ℕ → A) where
  pub length_tabulate : (first count : ℕ) → length (tabulate first count f) ≡ count
  length_tabulate first zero = refl
  length_tabulate first (suc count) = ap suc (length_tabulate (suc first) count)

  pub get_d_tabulate : (first count i : ℕ) (d : A) → i < count → get_or (tabulate first count f) i d ≡ f (first + i)
  get_d_tabulate first zero i d h = absurd (omega arith)
  get_d_tabulate first (suc count) zero d h = ap f (sym (add-zero first))
  get_d_tabulate first (suc count) (suc i) d h = get_d_tabulate (suc first) count i d (omega arith) ∙ ap f (omega arith)

  pub tabulate_more : (first count : ℕ) → tabulate first (count + 1) f ≡ tabulate first count f ++ (f (first + count) ∷ [])
  tabulate_more first zero = ap (λ (k : ℕ). f k ∷ []) (sym (add-zero first))
  tabulate_more first (suc count) =
      let more : suc count + 1 ≡ suc (count + 1) = omega arith in
      let last : suc first + count ≡ first + suc count = omega arith in
      ap (λ (k : ℕ). tabulate first k f) more
      ∙ ap (λ (rest : List A). f first ∷ rest) (tabulate_more (suc first) count ∙ ap (λ (k : ℕ). tabulate (suc first) count f ++ (f k ∷ [])) last)

-- two functions with the same values, each from its own number on
pub tabulate_same : {A : Type 0} (f g : ℕ → A) (first other count : ℕ) → ((i : ℕ) → i < count → f (first + i) ≡ g (other + i)) →
    tabulate first count f ≡ tabulate other count g
tabulate_same f g first other zero all = refl
tabulate_same f g first other (suc count) all =
    let here = ap f (sym (add-zero first)) ∙ all 0 (omega arith) ∙ ap g (add-zero other) in
    let next : (i : ℕ) → i < count → f (suc first + i) ≡ g (suc other + i) = λ i h.
    let from : suc first + i ≡ first + suc i = omega arith in
    let to : other + suc i ≡ suc other + i = omega arith in
    ap f from ∙ all (suc i) (omega arith) ∙ ap g to in
    ap₂ ◌∷◌ here (tabulate_same f g (suc first) (suc other) count next)

module _ {A : Type 0} where
  pub length_part : (xs : List A) (at size : ℕ) → at + size ≤ length xs → length (part xs at size) ≡ size
  length_part xs at size h = length-take-le size (drop at xs) (simp length-drop (omega arith))

  -- a part with one element more
  pub part_more : (xs : List A) (at i : ℕ) (d : A) → at + i < length xs → part xs at (i + 1) ≡ part xs at i ++ (get_or xs (at + i) d ∷ [])
  part_more xs at i d h =
      let inside : i < length (drop at xs) = simp length-drop (omega arith) in
      simp add-one (take-suc (drop at xs) i d inside ∙ ap (λ (x : A). part xs at i ++ (x ∷ [])) (get_or-drop at xs i d))

  -- two parts, the second right behind the first, are one
  pub part_then : (xs : List A) (at size more next : ℕ) → at + size ≡ next → part xs at size ++ part xs next more ≡ part xs at (size + more)
  part_then xs at size more next e =
      let rest : drop next xs ≡ drop size (drop at xs) = ap (λ (k : ℕ). drop k xs) (sym e) ∙ sym (drop-drop size at xs) in
      ap (λ (l : List A). part xs at size ++ take more l) rest ∙ sym (take-add size more (drop at xs))

  -- a part of a part is a part of the whole
  part_of_front : (at size n : ℕ) (xs : List A) → at + size ≤ n → part (take n xs) at size ≡ part xs at size
  part_of_front zero size n xs h = take-take size n xs (omega arith)
  part_of_front (suc at) size zero xs h = absurd (omega arith)
  part_of_front (suc at) size (suc n) [] h = refl
  part_of_front (suc at) size (suc n) (x ∷ xs) h = part_of_front at size n xs (omega arith)

  pub part_part : (xs : List A) (from n at size : ℕ) → at + size ≤ n → part (part xs from n) at size ≡ part xs (from + at) size
  part_part xs from n at size h = part_of_front at size n (drop from xs) h ∙ ap (take size) (drop-drop at from xs)

  pub get_d_part : (xs : List A) (from n i : ℕ) (d : A) → i < n → get_or (part xs from n) i d ≡ get_or xs (from + i) d
  get_d_part xs from n i d h = get_or-take n (drop from xs) i d h ∙ get_or-drop from xs i d

  -- what stands in front only moves what is behind it
  pub drop_behind : (xs ys : List A) (n at : ℕ) → length xs ≡ n → drop (n + at) (xs ++ ys) ≡ drop at ys
  drop_behind xs ys n at e = sym (drop-drop at n (xs ++ ys)) ∙ ap (drop at) (drop_at xs ys n e)

  pub part_behind : (xs ys : List A) (n at size : ℕ) → length xs ≡ n → part (xs ++ ys) (n + at) size ≡ part ys at size
  part_behind xs ys n at size e = ap (take size) (drop_behind xs ys n at e)

  -- and what stands behind it changes nothing
  pub part_inside : (xs ys : List A) (at size : ℕ) → at + size ≤ length xs → part (xs ++ ys) at size ≡ part xs at size
  part_inside xs ys at size h =
      let enough : size ≤ length (drop at xs) = simp length-drop (omega arith) in
      ap (take size) (drop-append-le at xs ys (omega arith)) ∙ take-append-le size (drop at xs) ys enough

  -- the list in front is a part
  pub part_front : (xs ys : List A) (n : ℕ) → length xs ≡ n → part (xs ++ ys) 0 n ≡ xs
  part_front xs ys n e = take_at xs ys n e

  -- where a list stands in another, and what follows it
  pub part_there : (s : List A) (at : ℕ) (xs ys : List A) → drop at s ≡ xs ++ ys → part s at (length xs) ≡ xs
  part_there s at xs ys e = ap (take (length xs)) e ∙ take_at xs ys (length xs) refl

  pub drop_past : (s : List A) (at : ℕ) (xs ys : List A) → drop at s ≡ xs ++ ys → drop (at + length xs) s ≡ ys
  drop_past s at xs ys e = sym (drop-drop (length xs) at s) ∙ ap (drop (length xs)) e ∙ drop_at xs ys (length xs) refl

  module _ (out : List A) (at : ℕ) (ys : List A) where
    -- what is written where it fits
    pub put_fits : at + length ys ≤ length out → put_at out at ys ≡ take at out ++ ys ++ drop (at + length ys) out
    unfolding put_at
    put_fits h = simp (le-leb _ _ h)

    -- what does not fit is not written
    pub put_none : length out < at + length ys → put_at out at ys ≡ out
    unfolding put_at
    put_none h = simp (lt-leb _ _ h)

    -- a copy of the whole is a write
    pub put_paste : at + length ys ≤ length out → paste out at ys (length ys) ≡ put_at out at ys
    put_paste h = simp (take-length ys) (sym (put_fits h))

    -- and so are stores one by one
    pub put_sets : at + length ys ≤ length out → sets out at ys ≡ put_at out at ys
    put_sets h = sets-eq ys out at h ∙ sym (put_fits h)

    -- a write keeps the length
    pub length_put : length (put_at out at ys) ≡ length out
    length_put = go (holds (length out) at (length ys)) refl
      where
        go : (t : Bool) → holds (length out) at (length ys) ≡ t → length (put_at out at ys) ≡ length out
        go true e = ap length (sym (put_paste (leb-true _ _ e))) ∙ length-paste out at ys (length ys) (leb-true _ _ e) (omega arith)
        go false e = ap length (put_none (leb-false _ _ e))

    -- what was written is read back
    pub part_put : at + length ys ≤ length out → part (put_at out at ys) at (length ys) ≡ ys
    part_put h =
        let front : length (take at out) ≡ at = length-take-le at out (omega arith) in
        let rest : List A = drop (at + length ys) out in
        let there = part_behind (take at out) (ys ++ rest) at 0 (length ys) front ∙ part_front ys rest (length ys) refl in
        simp (put_fits h, append_assoc) (rw add-zero at there)

  -- a write changes no place in front of it and none behind it

  sets_before : (ys out : List A) (at k : ℕ) (d : A) → k < at → get_or (sets out at ys) k d ≡ get_or out k d
  sets_before [] out at k d h = refl
  sets_before (y ∷ ys) out at k d h = sets_before ys (set out at y) (suc at) k d (omega arith) ∙ get_or-set_other out at k y d (λ same. omega arith)

  sets_behind : (ys out : List A) (at k : ℕ) (d : A) → at + length ys ≤ k → get_or (sets out at ys) k d ≡ get_or out k d
  sets_behind [] out at k d h = refl
  sets_behind (y ∷ ys) out at k d h = sets_behind ys (set out at y) (suc at) k d (omega arith) ∙ get_or-set_other out at k y d (λ same. omega arith)

  module _ (out : List A) (at : ℕ) (ys : List A) (room : at + length ys ≤ length out) (d : A) where
    pub put_before : (k : ℕ) → k < at → get_or (put_at out at ys) k d ≡ get_or out k d
    put_before k h = ap (λ (l : List A). get_or l k d) (sym (put_sets out at ys room)) ∙ sets_before ys out at k d h

    pub put_behind : (k : ℕ) → at + length ys ≤ k → get_or (put_at out at ys) k d ≡ get_or out k d
    put_behind k h = ap (λ (l : List A). get_or l k d) (sym (put_sets out at ys room)) ∙ sets_behind ys out at k d h

    -- and has its own elements between them
    pub put_inside : (j : ℕ) → j < length ys → get_or (put_at out at ys) (at + j) d ≡ get_or ys j d
    put_inside j h =
        sym (get_d_part (put_at out at ys) at (length ys) j d h) ∙ ap (λ (l : List A). get_or l j d) (part_put out at ys room)

  -- writing nothing changes nothing
  pub put_nothing : (out : List A) (at : ℕ) → put_at out at [] ≡ out
  put_nothing out at = go (leb at (length out)) refl
    where
      go : (t : Bool) → leb at (length out) ≡ t → put_at out at [] ≡ out
      go true e =
          let fits : at + 0 ≤ length out = omega (arith, leb-true at (length out) e) in
          put_fits out at [] fits ∙ rw (add-zero at, append-nil (take at out)) (take-append-drop at out)
      go false e = put_none out at [] (omega (arith, leb-false at (length out) e))

  -- two writes, the second right behind the first, are one
  pub put_then : (out : List A) (at : ℕ) (xs ys : List A) (next : ℕ) → at + length xs ≡ next → next + length ys ≤ length out →
      put_at (put_at out at xs) next ys ≡ put_at out at (xs ++ ys)
  put_then out at xs ys next e h =
      let front : length (take at out ++ xs) ≡ next = length-append (take at out) xs ∙ omega (arith, length-take-le at out (omega arith)) in
      let once : put_at out at xs ≡ take at out ++ xs ++ drop next out = put_fits out at xs (omega arith) ∙ ap (λ (k : ℕ). take at out ++ xs ++ drop k out) e in
      let both : at + length (xs ++ ys) ≡ next + length ys = simp length-append (omega arith) in
      put_fits (put_at out at xs) next ys (simp length_put h)
      ∙ ap₂ (λ (a b : List A). a ++ ys ++ b)
      (ap (take next) once ∙ take_at (take at out ++ xs) (drop next out) next front)
      (ap (drop (next + length ys)) once ∙ drop_behind (take at out ++ xs) (drop next out) next (length ys) front ∙ drop-drop (length ys) next out)
      ∙ ap₂ (λ (a : List A) (k : ℕ). a ++ drop k out) (append_assoc (take at out) xs ys) (sym both)
      ∙ sym (put_fits out at (xs ++ ys) (omega (arith, both)))
