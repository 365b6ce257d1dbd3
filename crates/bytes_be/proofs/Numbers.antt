-- Laws of big-endian numbers, at any width: each of the two readings undoes the other. Assumes nothing.
use mathlib.Core.Path.{◌≡◌, refl, sym, ap, ap₂, ◌∙◌}
use mathlib.Core.List.{List, [], ◌∷◌, ◌++◌, append_assoc, append-nil}
use Prim.Native.Nat.{ℕ, zero, suc, ◌+◌, ◌*◌, ◌/◌, ◌%◌, ◌^◌, ◌≤◌, ◌<◌}
use native.Mathlib.Nat.{add-zero, zero-add, add-suc, suc-add, one-le-pow, pow-le-pow_right, lt_of_lt_of_le}
use native.Mathlib.Numerals.{add-one}
use native.Mathlib.Omega.{arith}
use lib.Dec.{lit<, ltb}
use lib.ListN.{length, get_or, drop, length-append, length-take, get_or-eq_default, take}
use lib.Seq.{get_or-take, get_or-drop}
use mathlib.Core.Bool.{Bool, true, false, cond}
use borrow.Author.Tests.{le-leb, lt-leb, leb-true, ltb-true, ltb-false}
use Rattle.std.specs.Int.{bytes_high_first}
use Rattle.std.proofs.Math.Nat.{div-div-eq-div-mul}
use Rattle.bytes_be.specs.Part.{holds, part, put_at}
use Rattle.bytes_be.specs.Number.{from_bytes_behind, from_bytes, to_bytes, number_at}
use Rattle.bytes_be.proofs.Parts.{length_part, length_put, part_put, part_more}

-- every element is a byte
abbrev pub Bytes : List ℕ → Type 0
Bytes s = (i : ℕ) → get_or s i 0 < 256

pub length_to_bytes : (width n : ℕ) → length (to_bytes width n) ≡ width
unfolding to_bytes
length_to_bytes zero n = refl
length_to_bytes (suc width) n =
    length-append (to_bytes width (n / 256)) (n % 256 ∷ []) ∙ omega (arith, length_to_bytes width (n / 256))

-- the standard library's bytes of a number are those

high_first_more : (width n : ℕ) → bytes_high_first (suc width) n ≡ bytes_high_first width (n / 256) ++ (n % 256 ∷ [])
high_first_more zero n = refl
high_first_more (suc zero) n = refl
high_first_more (suc (suc width)) n =
    let deeper : n / 256 ^ suc (suc width) ≡ n / 256 / 256 ^ suc width = ap (λ (k : ℕ). n / k) (omega arith) ∙ sym (div-div-eq-div-mul n 256 (256 ^ suc width)) in
    ap₂ (λ (b : ℕ) (l : List ℕ). b % 256 ∷ l) deeper (high_first_more (suc width) n)

pub high_first : (width n : ℕ) → bytes_high_first width n ≡ to_bytes width n
unfolding to_bytes
high_first zero n = refl
high_first (suc width) n = high_first_more width n ∙ ap (λ (l : List ℕ). l ++ (n % 256 ∷ [])) (high_first width (n / 256))

behind_append : (n : ℕ) (xs ys : List ℕ) → from_bytes_behind n (xs ++ ys) ≡ from_bytes_behind (from_bytes_behind n xs) ys
unfolding from_bytes_behind
behind_append n [] ys = refl
behind_append n (b ∷ xs) ys = behind_append (n * 256 + b) xs ys

-- one byte more
pub from_more : (xs : List ℕ) (b : ℕ) → from_bytes (xs ++ (b ∷ [])) ≡ from_bytes xs * 256 + b
unfolding from_bytes from_bytes_behind
from_more xs b = behind_append 0 xs (b ∷ [])

-- the number of a number's bytes is that number
pub from_to : (width n : ℕ) → n < 256 ^ width → from_bytes (to_bytes width n) ≡ n
unfolding to_bytes from_bytes from_bytes_behind
from_to zero n h = omega arith
from_to (suc width) n h =
    let high : n / 256 < 256 ^ width = omega arith in
    from_more (to_bytes width (n / 256)) (n % 256) ∙ omega (arith, from_to width (n / 256) high)

to_behind : (width n : ℕ) (bytes : List ℕ) → Bytes bytes → to_bytes (width + length bytes) (from_bytes_behind n bytes) ≡ to_bytes width n ++ bytes
unfolding to_bytes from_bytes_behind
to_behind width n [] h = ap (λ (k : ℕ). to_bytes k n) (add-zero width) ∙ sym (append-nil (to_bytes width n))
to_behind width n (b ∷ rest) h =
    let byte : b < 256 = h 0 in
    let high : (n * 256 + b) / 256 ≡ n = omega arith in
    let low : (n * 256 + b) % 256 ≡ b = omega arith in
    ap (λ (k : ℕ). to_bytes k (from_bytes_behind (n * 256 + b) rest)) (add-suc width (length rest) ∙ sym (suc-add width (length rest)))
    ∙ to_behind (suc width) (n * 256 + b) rest (λ i. h (suc i))
    ∙ simp (high, low, append_assoc)

-- the bytes of the number that bytes say are those bytes
pub to_from : (bytes : List ℕ) → Bytes bytes → to_bytes (length bytes) (from_bytes bytes) ≡ bytes
unfolding from_bytes to_bytes
to_from bytes h = ap (λ (k : ℕ). to_bytes k (from_bytes_behind 0 bytes)) (sym (zero-add (length bytes))) ∙ to_behind 0 0 bytes h

-- where the bytes of a number stand, that number is read
pub number_is : (width : ℕ) (s : List ℕ) (at n : ℕ) → at + width ≤ length s → n < 256 ^ width → part s at width ≡ to_bytes width n → number_at width s at ≡ n
unfolding number_at
number_is width s at n inside small same = simp (le-leb (at + width) (length s) inside, same) (from_to width n small)

-- where not all of its bytes lie in the list, a number is 0
pub number_past : (width : ℕ) (s : List ℕ) (at : ℕ) → length s < at + width → number_at width s at ≡ 0
unfolding number_at
number_past width s at outside = simp (lt-leb (at + width) (length s) outside)

-- what was stored at a place is the number there
pub number_put : (width : ℕ) (out : List ℕ) (at n : ℕ) → at + width ≤ length out → n < 256 ^ width → number_at width (put_at out at (to_bytes width n)) at ≡ n
number_put width out at n room small =
    let wide : length (to_bytes width n) ≡ width = length_to_bytes width n in
    let there = part_put out at (to_bytes width n) (omega arith) in
    number_is width (put_at out at (to_bytes width n)) at n (simp length_put room) small (rw wide at there)

-- a number that bytes say is as small as their count allows

pub more_below : (i : ℕ) {n b : ℕ} → n < 256 ^ i → b < 256 → n * 256 + b < 256 ^ (i + 1)
more_below i h k = rw add-one (omega arith)

below_behind : (k n : ℕ) (bytes : List ℕ) → n < 256 ^ k → Bytes bytes → from_bytes_behind n bytes < 256 ^ (k + length bytes)
unfolding from_bytes_behind
below_behind k n [] small h = rw add-zero small
below_behind k n (b ∷ rest) small h =
    let next : k + 1 + length rest ≡ k + suc (length rest) = omega arith in
    rw (← next) (below_behind (k + 1) (n * 256 + b) rest (more_below k small (h 0)) (λ i. h (suc i)))

pub from_below : (bytes : List ℕ) → Bytes bytes → from_bytes bytes < 256 ^ length bytes
unfolding from_bytes
from_below bytes h = rw zero-add at (below_behind 0 0 bytes (lit< tt) h)

-- the elements of a part are bytes too
pub bytes_part : (s : List ℕ) (at size : ℕ) → Bytes s → Bytes (part s at size)
bytes_part s at size h i = go (ltb i size) refl
  where
    go : (t : Bool) → ltb i size ≡ t → get_or (part s at size) i 0 < 256
    go true e = rw (get_or-take size (drop at s) i 0 (ltb-true i size e), get_or-drop at s i 0) (h (at + i))
    go false e = rw (get_or-eq_default (part s at size) 0 {n = i} (simp length-take (omega (arith, ltb-false i size e)))) (lit< tt)

-- and so are those of two lists of bytes, one behind the other
pub bytes_append : (xs ys : List ℕ) → Bytes xs → Bytes ys → Bytes (xs ++ ys)
bytes_append [] ys front back i = back i
bytes_append (x ∷ xs) ys front back zero = front 0
bytes_append (x ∷ xs) ys front back (suc i) = bytes_append xs ys (λ k. front (suc k)) back i

-- and of a list that bytes were written to
pub bytes_put : (out : List ℕ) (at : ℕ) (ys : List ℕ) → Bytes out → Bytes ys → Bytes (put_at out at ys)
unfolding put_at
bytes_put out at ys around inside = go (holds (length out) at (length ys))
  where
    go : (t : Bool) → Bytes (cond t (take at out ++ ys ++ drop (at + length ys) out) out)
    go true =
        bytes_append (take at out ++ ys) (drop (at + length ys) out) (bytes_append (take at out) ys (bytes_part out 0 at around) inside)
        (λ i. rw (get_or-drop (at + length ys) out i 0) (around (at + length ys + i)))
    go false = around

pub number_below : (width : ℕ) (s : List ℕ) (at : ℕ) → Bytes s → number_at width s at < 256 ^ width
unfolding number_at
number_below width s at h = go (holds (length s) at width) refl
  where
    go : (t : Bool) → holds (length s) at width ≡ t → cond t (from_bytes (part s at width)) 0 < 256 ^ width
    go true e = rw (length_part s at width (leb-true (at + width) (length s) e)) at (from_below (part s at width) (bytes_part s at width h))
    go false e = one-le-pow width 256 (lit< tt)

-- the bytes of the number at a place are those that stand there
pub bytes_there : (width : ℕ) (s : List ℕ) (at : ℕ) → Bytes s → at + width ≤ length s → to_bytes width (number_at width s at) ≡ part s at width
unfolding number_at
bytes_there width s at h inside =
    simp (le-leb (at + width) (length s) inside)
    (ap (λ (w : ℕ). to_bytes w (from_bytes (part s at width))) (sym (length_part s at width inside)) ∙ to_from (part s at width) (bytes_part s at width h))

-- a number of i bytes and a byte are a number of one byte more
pub number_more : (s : List ℕ) (at i n : ℕ) → at + i < length s → n ≡ from_bytes (part s at i) → n * 256 + get_or s (at + i) 0 ≡ from_bytes (part s at (i + 1))
number_more s at i n inside e =
    let more = ap from_bytes (part_more s at i 0 inside) ∙ from_more (part s at i) (get_or s (at + i) 0) in
    rw (← e) at (sym more)

-- a number of one byte is that byte, and one of two bytes counts the first 256 times

pub byte_there : (s : List ℕ) (at : ℕ) → at < length s → number_at 1 s at ≡ get_or s at 0
unfolding number_at from_bytes from_bytes_behind
byte_there s at inside =
    let here : get_or s (at + 0) 0 ≡ get_or s at 0 = ap (λ (k : ℕ). get_or s k 0) (add-zero at) in
    simp (le-leb (at + 1) (length s) (omega arith)) (sym (number_more s at 0 0 (omega arith) refl) ∙ omega (arith, here))

pub two_there : (s : List ℕ) (at : ℕ) → at + 1 < length s → number_at 2 s at ≡ get_or s at 0 * 256 + get_or s (at + 1) 0
unfolding number_at
two_there s at inside =
    let one : at < length s = omega arith in
    let first : get_or s at 0 ≡ from_bytes (part s at 1) = sym (byte_there s at one) ∙ simp (le-leb (at + 1) (length s) (omega arith)) in
    simp (le-leb (at + 2) (length s) (omega arith)) (sym (number_more s at 1 (get_or s at 0) inside first))

-- seven bytes leave room for one more in 64 bits
pub room_for_one : {i n : ℕ} → i < 8 → n < 256 ^ i → n < 2 ^ 56
room_for_one {i} {n} h k = lt_of_lt_of_le k (pow-le-pow_right {n = 256} (lit< tt) {i = i} {j = 7} (omega arith))
