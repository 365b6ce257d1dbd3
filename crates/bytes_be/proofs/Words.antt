-- Laws of the number that bytes say backwards, the least significant first, at any width: which bytes are below 128, and which lists are
-- the same. Assumes nothing.
use mathlib.Core.Path.{◌≡◌, refl, sym, ap, ap₂, ◌∙◌}
use mathlib.Core.List.{List, [], ◌∷◌, ◌++◌, reverse, reverse-cons}
use mathlib.Core.Bool.{Bool, true, false}
use mathlib.Core.Logic.{◌↔◌}
use Prim.Native.Nat.{ℕ, zero, suc, ◌+◌, ◌*◌, ◌/◌, ◌%◌, ◌≤◌, ◌<◌}
use native.Mathlib.Nat.{add-zero, mod-eq_of_lt}
use native.Mathlib.Omega.{arith}
use lib.Dec.{lit<, eqb}
use lib.Bits.{bit_and, and_block, and_mask, and_zero_r}
use lib.ListN.{length, get_or, drop, length-drop, take-append-drop}
use lib.Seq.{take_all}
use borrow.Author.Tests.{eqb-true, eqb-false}
use Rattle.bytes_be.specs.Part.{part, same}
use Rattle.bytes_be.specs.Number.{from_bytes, from_bytes_behind}
use Rattle.bytes_be.proofs.Parts.{length_part, part_then, part_part}
use Rattle.bytes_be.proofs.Numbers.{Bytes, from_more, bytes_part}
use Rattle.bytes_be.proofs.Filled.{last_elements}
use Rattle.bytes_be.proofs.Sameness.{equal_same, not_same}

-- eight bytes, the last one first
pub eight_backwards : (bytes : List ℕ) → length bytes ≡ 8 →
    get_or bytes 7 0 ∷ get_or bytes 6 0 ∷ get_or bytes 5 0 ∷ get_or bytes 4 0 ∷ get_or bytes 3 0 ∷ get_or bytes 2 0 ∷ get_or bytes 1 0 ∷ get_or bytes 0 0 ∷ [] ≡ reverse bytes
eight_backwards bytes e = ap reverse (sym (last_elements 0 bytes 0 8 (sym e)))

-- the number that they say
pub eight_say : (bytes : List ℕ) → length bytes ≡ 8 →
    ((((((get_or bytes 7 0 * 256 + get_or bytes 6 0) * 256 + get_or bytes 5 0) * 256 + get_or bytes 4 0) * 256 + get_or bytes 3 0) * 256 + get_or bytes 2 0) * 256 + get_or bytes 1 0) * 256 + get_or bytes 0 0
    ≡ from_bytes (reverse bytes)
unfolding from_bytes from_bytes_behind
eight_say bytes e = omega (arith, ap from_bytes (eight_backwards bytes e))

-- the first byte counts once, and the number of those behind it 256 times
from_backwards : (b : ℕ) (rest : List ℕ) → from_bytes (reverse (b ∷ rest)) ≡ from_bytes (reverse rest) * 256 + b
from_backwards b rest = ap from_bytes (reverse-cons b rest) ∙ from_more (reverse rest) b

-- the number of so many bytes, each of them 128
unfoldable pub tops : ℕ → ℕ
tops zero = 0
tops (suc width) = tops width * 256 + 128

-- a byte is below 128 exactly if it has no bit in common with 128
low_byte : (b : ℕ) → b < 256 → (bit_and b 128 ≡ 0) ↔ (b < 128)
low_byte b byte = (λ e. omega (arith, top), λ low. omega (arith, top))
  where
    half : b ≡ b / 128 * 128 + b % 128
    half = omega arith

    top : bit_and b 128 ≡ b / 128 * 128
    top =
        ap (λ (n : ℕ). bit_and n 128) half
        ∙ and_block 7 (b / 128) 1 (b % 128) 0 (omega arith) (lit< tt)
        ∙ ap₂ (λ (n m : ℕ). n * 128 + m) (and_mask (b / 128) 1 ∙ mod-eq_of_lt (omega arith)) (and_zero_r (b % 128))
        ∙ add-zero (b / 128 * 128)

-- every element is below 128
abbrev pub Low : List ℕ → Type 0
Low bytes = (i : ℕ) → i < length bytes → get_or bytes i 0 < 128

low_cons : (b : ℕ) (rest : List ℕ) → b < 128 → Low rest → Low (b ∷ rest)
low_cons b rest first others zero less = first
low_cons b rest first others (suc i) less = others i (omega arith)

-- bytes are below 128 exactly if their number has no bit in common with that of as many bytes of 128
pub low_bytes : (bytes : List ℕ) → Bytes bytes → (bit_and (from_bytes (reverse bytes)) (tops (length bytes)) ≡ 0) ↔ Low bytes
unfolding tops from_bytes from_bytes_behind
low_bytes [] h = (λ e i less. absurd (omega arith), λ low. refl)
low_bytes (b ∷ rest) h =
    let first = low_byte b (h 0) in
    let others = low_bytes rest (λ i. h (suc i)) in
    let apart = ap (λ (n : ℕ). bit_and n (tops (length rest) * 256 + 128)) (from_backwards b rest) ∙ and_block 8 (from_bytes (reverse rest)) (tops (length rest)) b 128 (h 0) (lit< tt) in (
      λ e. low_cons b rest (first.0 (omega (arith, apart))) (others.0 (omega (arith, apart))),
      λ low. omega (arith, apart, first.1 (low 0 (omega arith)), others.1 (λ i less. low (suc i) (omega arith))),
    )

-- as many bytes that say the same number are the same
same_number : (xs ys : List ℕ) → Bytes xs → Bytes ys → length xs ≡ length ys → from_bytes (reverse xs) ≡ from_bytes (reverse ys) → xs ≡ ys
same_number [] [] hx hy e n = refl
same_number [] (y ∷ ys) hx hy e n = absurd (omega arith)
same_number (x ∷ xs) [] hx hy e n = absurd (omega arith)
same_number (x ∷ xs) (y ∷ ys) hx hy e n =
    let both : from_bytes (reverse xs) * 256 + x ≡ from_bytes (reverse ys) * 256 + y = sym (from_backwards x xs) ∙ n ∙ from_backwards y ys in
    let first : x ≡ y = omega (arith, hx 0, hy 0) in
    let behind : from_bytes (reverse xs) ≡ from_bytes (reverse ys) = omega (arith, hx 0, hy 0) in
    ap₂ (λ (b : ℕ) (l : List ℕ). b ∷ l) first (same_number xs ys (λ i. hx (suc i)) (λ i. hy (suc i)) (omega arith) behind)

-- and so are parts of lists, where both have them
pub same_parts : (xs ys : List ℕ) → Bytes xs → Bytes ys → (at width : ℕ) → at + width ≤ length xs → at + width ≤ length ys →
    from_bytes (reverse (part xs at width)) ≡ from_bytes (reverse (part ys at width)) → part xs at width ≡ part ys at width
same_parts xs ys hx hy at width lx ly =
    same_number (part xs at width) (part ys at width) (bytes_part xs at width hx) (bytes_part ys at width hy) (length_part xs at width lx ∙ sym (length_part ys at width ly))

-- lists are the same that are so up to one place, and from another in front of it on
same_ends : {A : Type 0} (xs ys : List A) (from at : ℕ) → from ≤ at → part xs 0 at ≡ part ys 0 at → drop from xs ≡ drop from ys → xs ≡ ys
same_ends {A} xs ys from at less front end =
    let short : part xs 0 from ≡ part ys 0 from = sym (part_part xs 0 at 0 from (omega arith)) ∙ ap (λ (l : List A). part l 0 from) front ∙ part_part ys 0 at 0 from (omega arith) in
    sym (take-append-drop from xs) ∙ ap₂ (λ (l m : List A). l ++ m) short end ∙ take-append-drop from ys

-- two lists are compared so many bytes at a time, and are the same up to a place
module _ (xs ys : List ℕ) (hx : Bytes xs) (hy : Bytes ys) (long : length xs ≡ length ys) (at width : ℕ) (front : part xs 0 at ≡ part ys 0 at) where
  -- they are so behind the next bytes too, if these say the same number
  pub same_further : at + width ≤ length xs → from_bytes (reverse (part xs at width)) ≡ from_bytes (reverse (part ys at width)) → part xs 0 (at + width) ≡ part ys 0 (at + width)
  same_further inside e =
      sym (part_then xs 0 at width at (omega arith))
      ∙ ap₂ (λ (l m : List ℕ). l ++ m) front (same_parts xs ys hx hy at width inside (omega arith) e)
      ∙ part_then ys 0 at width at (omega arith)

  -- the whole lists are the same exactly if their last bytes say the same number, where all in front of those were compared
  pub same_last : (last n m : ℕ) → last + width ≡ length xs → last ≤ at → n ≡ from_bytes (reverse (part xs last width)) → m ≡ from_bytes (reverse (part ys last width)) → eqb n m ≡ same xs ys
  same_last last n m end less en em = go (eqb n m) refl
    where
      tail : (zs : List ℕ) → length zs ≡ length xs → part zs last width ≡ drop last zs
      tail zs e = take_all width (drop last zs) (omega (arith, length-drop last zs))

      go : (t : Bool) → eqb n m ≡ t → t ≡ same xs ys
      go true e =
          let Part-same = same_parts xs ys hx hy last width (omega arith) (omega arith) (sym en ∙ eqb-true n m e ∙ em) in
          let equal = same_ends xs ys last at less front (sym (tail xs refl) ∙ Part-same ∙ tail ys (sym long)) in
          sym (rw equal (equal_same ys))
      go false e = not_same xs ys (λ equal. eqb-false n m e (en ∙ ap (λ (l : List ℕ). from_bytes (reverse (part l last width))) equal ∙ sym em))
