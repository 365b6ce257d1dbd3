-- The shortest varint of a number: its digits, its length, and that reading it gives the number back. Assumes nothing.
use Prim.Native.Nat.{ℕ, zero, suc, ◌+◌, ◌*◌, ◌/◌, ◌%◌, ◌^◌, ◌≤◌, ◌<◌}
use mathlib.Core.Path.{◌≡◌, refl, ap, ◌∙◌}
use mathlib.Core.List.{List, [], ◌∷◌, ◌++◌}
use mathlib.Core.Bool.{Bool, true, false, cond}
use lib.ListN.{length, get_or, take, drop}
use lib.Dec.{ltb}
use native.Mathlib.Numerals.{add-one}
use native.Mathlib.Omega.{arith}
use borrow.Author.Tests.{le-ltb, lt-ltb, ltb-true, ltb-false}
use Rattle.std.specs.Prelude.{Err}
use Rattle.wire.specs.declared.Kind.TheVariants.{CutShort}
use Rattle.wire.specs.Varint.{varint_of, below, bounded, said_at, varint_at, shortest_within, shortest_of, varint_length}

-- the lowest seven bits, marked where higher ones follow, and so many of such digits
abbrev digit_of : ℕ → ℕ
digit_of number = cond (ltb number 128) number (number % 128 + 128)

abbrev pub digits_of : ℕ → ℕ → List ℕ
digits_of zero number = []
digits_of (suc count) number = digit_of number ∷ digits_of count (number / 128)

take_digits : (left number : ℕ) → take (length (shortest_within left number)) (digits_of left number) ≡ shortest_within left number
unfolding shortest_within
take_digits zero number = refl
take_digits (suc left) number = go (ltb number 128) (take_digits left (number / 128))
  where
    go : (t : Bool) → take (length (shortest_within left (number / 128))) (digits_of left (number / 128)) ≡ shortest_within left (number / 128)
        → take (length (cond t (number ∷ []) ((number % 128 + 128) ∷ shortest_within left (number / 128)))) (cond t number (number % 128 + 128) ∷ digits_of left (number / 128))
        ≡ cond t (number ∷ []) ((number % 128 + 128) ∷ shortest_within left (number / 128))
    go true e = refl
    go false e = ap (λ (l : List ℕ). (number % 128 + 128) ∷ l) e

-- the first digits are the shortest varint
pub digits_shortest : (number : ℕ) → take (varint_length number) (digits_of 10 number) ≡ shortest_of number
unfolding varint_length shortest_of
digits_shortest number = take_digits 10 number

length_at_most : (left number : ℕ) → length (shortest_within left number) ≤ left
unfolding shortest_within
length_at_most zero number = omega arith
length_at_most (suc left) number = go (ltb number 128) (length_at_most left (number / 128))
  where
    go : (t : Bool) → length (shortest_within left (number / 128)) ≤ left
        → length (cond t (number ∷ []) ((number % 128 + 128) ∷ shortest_within left (number / 128))) ≤ suc left
    go true h = omega arith
    go false h = omega arith

pub varint_at_most : (number : ℕ) → varint_length number ≤ 10
unfolding varint_length shortest_of
varint_at_most number = length_at_most 10 number

-- ---- the count of the digits, one by one

-- `count` digits are counted, the last of them of what is left of the number, for which `room` bytes are enough
pub record Counted (number left count : ℕ) : Type 0 where
  pub room : ℕ
  pub some : 0 < room
  pub sum : room + count ≡ 11
  pub enough : left < 128 ^ room
  pub same : varint_length number + 1 ≡ length (shortest_within room left) + count

pub count_first : (number : ℕ) → number < 2 ^ 64 → Counted number number 1
unfolding varint_length shortest_of
count_first number h = record { room = 10; some = omega arith; sum = refl; enough = omega arith; same = refl }

module _ (number left count : ℕ) (known : Counted number left count) where
  pub count_last : left < 128 → count ≡ varint_length number
  unfolding shortest_within
  count_last small = go known.room known.some known.sum known.enough known.same
    where
      go : (room : ℕ) → 0 < room → room + count ≡ 11 → left < 128 ^ room → varint_length number + 1 ≡ length (shortest_within room left) + count → count ≡ varint_length number
      go zero some sum enough same = absurd (omega arith)
      go (suc room) some sum enough same = let one = rw (lt-ltb left 128 small) at same in omega arith

  pub count_next : 128 ≤ left → (count < 10) × Counted number (left / 128) (count + 1)
  unfolding shortest_within
  count_next large = go known.room known.sum known.enough known.same
    where
      go : (room : ℕ) → room + count ≡ 11 → left < 128 ^ room → varint_length number + 1 ≡ length (shortest_within room left) + count
          → (count < 10) × Counted number (left / 128) (count + 1)
      go zero sum enough same = absurd (omega arith)
      go (suc zero) sum enough same = absurd (omega arith)
      go (suc (suc room)) sum enough same =
          let more = rw (le-ltb left 128 large) at same in
          (omega arith, record { room = suc room; some = omega arith; sum = omega arith; enough = omega arith; same = omega arith })

-- ---- read back

head_of : (s : List ℕ) (at x : ℕ) (l : List ℕ) → drop at s ≡ x ∷ l → (get_or s at 0 ≡ x) × (drop (suc at) s ≡ l)
head_of s zero x l e = (ap (λ (t : List ℕ). get_or t 0 0) e, ap (drop 1) e)
head_of [] (suc at) x l e = let z = ap length e in absurd (omega arith)
head_of (y ∷ s) (suc at) x l e = head_of s at x l e

said_back : (left number : ℕ) (s : List ℕ) (at end : ℕ) (rest : List ℕ) → 0 < left → number < 128 ^ left → drop at s ≡ shortest_within left number ++ rest
    → at + length (shortest_within left number) ≤ end → said_at left s at end ≡ varint_of number (at + length (shortest_within left number))
unfolding shortest_within said_at
said_back zero number s at end rest some h e room = absurd (omega arith)
said_back (suc left) number s at end rest some h e room =
    go (ltb number 128) refl e room
    (λ l g f r. said_back left (number / 128) s (at + 1) end rest l g f r)
  where
    go : (t : Bool) → ltb number 128 ≡ t
        → drop at s ≡ cond t (number ∷ []) ((number % 128 + 128) ∷ shortest_within left (number / 128)) ++ rest
        → at + length (cond t (number ∷ []) ((number % 128 + 128) ∷ shortest_within left (number / 128))) ≤ end
        → (0 < left → number / 128 < 128 ^ left → drop (at + 1) s ≡ shortest_within left (number / 128) ++ rest → at + 1 + length (shortest_within left (number / 128)) ≤ end
        → said_at left s (at + 1) end ≡ varint_of (number / 128) (at + 1 + length (shortest_within left (number / 128))))
        → cond (ltb at end) (cond (ltb (get_or s at 0) 128) (varint_of (get_or s at 0) (at + 1)) (below (get_or s at 0) (said_at left s (at + 1) end))) (Err CutShort)
        ≡ varint_of number (at + length (cond t (number ∷ []) ((number % 128 + 128) ∷ shortest_within left (number / 128))))
    go true p e room behind =
        let first = head_of s at number rest e in
        let small = ltb-true number 128 p in
        rw first.0 (simp (lt-ltb at end (omega arith), p))
    go false p e room behind =
        let large = ltb-false number 128 p in
        let first = head_of s at (number % 128 + 128) (shortest_within left (number / 128) ++ rest) e in
        let some : 0 < left = positive left large h in
        let said = behind some (omega arith) (rw add-one first.1) (omega arith) in
        let whole : number / 128 * 128 + (number % 128 + 128) % 128 ≡ number = omega arith in
        let place : at + 1 + length (shortest_within left (number / 128)) ≡ at + suc (length (shortest_within left (number / 128))) = omega arith in
        rw (first.0, said) (simp (lt-ltb at end (omega arith), le-ltb (number % 128 + 128) 128 (omega arith), whole, place))
      where
        positive : (k : ℕ) → 128 ≤ number → number < 128 ^ suc k → 0 < k
        positive zero a b = absurd (omega arith)
        positive (suc k) a b = omega arith

-- the shortest varint of a number, wherever it stands and whatever follows, is read as that number
pub varint_back : (number : ℕ) (s : List ℕ) (at end : ℕ) (rest : List ℕ) → number < 2 ^ 64 → drop at s ≡ shortest_of number ++ rest → at + varint_length number ≤ end
    → varint_at s at end ≡ varint_of number (at + varint_length number)
unfolding varint_at varint_length shortest_of
varint_back number s at end rest h e room =
    ap bounded (said_back 10 number s at end rest (omega arith) (omega arith) e room) ∙ simp (lt-ltb number (2 ^ 64) h)
