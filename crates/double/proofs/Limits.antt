-- Laws of the limit: when a double is one, that nothing of it is lost, and that the limit that was written is read back. Assumes nothing.
use Rattle.std.specs.Prelude.{Some, None}
use Rattle.std.proofs.Common.{◌≡◌, ℕ, ◌+◌, ◌*◌, ◌/◌, ◌^◌, ◌<◌, ◌≤◌, Bool, true, false, cond, ◌&&◌, T, ltb, leb, List, length, pos, sym, refl, ap, ◌∙◌, subst, div-lt_iff_lt-mul, arith, le→leb, ltb→lt, lt→ltb, le-leb, leb-true}
use lib.Ieee.{Float, nan, inf, fin, binary64, up, down, of_bits, to_bits, of_int, fits, in_unsigned, to_unsigned, in_float, whole, lt}
use lib.Ieee.Bits.{of_bits-to_bits, to_bits-lt, is_true}
use lib.Ieee.Back.{unsigned_back, Float-back_unsigned}
use lib.Ieee.Fits.{of_int-fits, and_r, and_i, down_pos}
use lib.Ieee.Casts.{to_unsigned-lt}
use Rattle.bytes_be.specs.Part.{part}
use Rattle.bytes_be.proofs.Tests.{both_true, clash, took_first}
use Rattle.double.specs.Double.{bits_at, bytes_of}
use Rattle.double.specs.Limit.{is_whole, integer_of, in_limits, limit_of}
use Rattle.double.proofs.Order.{bits_there}
use Rattle.double.proofs.Patterns.{same_bits}

-- 32 bits hold no number that a double does not
in-float : (n : ℕ) → n < 2 ^ 32 → T (in_float binary64 (pos n))
unfolding in_float
in-float n h = le→leb n (2 ^ 53) (omega arith)

-- the double of a whole number within the limits says that number
pub limit_of_whole : (n : ℕ) → 1000000 ≤ n → n ≤ 50000000 → limit_of (of_int binary64 (pos n)) ≡ Some n
unfolding limit_of
limit_of_whole n low high =
    let back = unsigned_back binary64 32 n (in-float n (omega arith)) (omega arith) in
    simp (is_true (in_unsigned binary64 32 (of_int binary64 (pos n))) back.0, back.1, le-leb 1000000 n low, le-leb n 50000000 high)

-- and so does a double with the same bits
pub limit_same_bits : (x : Float) (n : ℕ) → T (fits binary64 x) → 1000000 ≤ n → n ≤ 50000000 → to_bits binary64 (of_int binary64 (pos n)) ≡ to_bits binary64 x → Some n ≡ limit_of x
limit_same_bits x n p low high same =
    sym (limit_of_whole n low high) ∙ ap limit_of (same_bits (of_int binary64 (pos n)) x (of_int-fits binary64 (pos n)) p same)

-- a double that is whole is that of its integer, at 64 bits as at 32
whole_is : (x : Float) → T (fits binary64 x) → T (is_whole x) → (to_unsigned 64 x ≡ integer_of x) × (of_int binary64 (pos (integer_of x)) ≡ x)
whole_is x p t =
    let back = Float-back_unsigned binary64 32 x p t in
    let small : integer_of x < 2 ^ 32 = to_unsigned-lt 32 x in
    (subst (λ (y : Float). to_unsigned 64 y ≡ integer_of x) back.1 (unsigned_back binary64 64 (integer_of x) back.0 (omega arith)).1, back.1)

-- the test of the limits, as two bounds
within : (n : ℕ) → in_limits n ≡ true → (1000000 ≤ n) × (n ≤ 50000000)
within n e =
    let ends = both_true (leb 1000000 n) (leb n 50000000) e in
    (leb-true 1000000 n ends.0, leb-true n 50000000 ends.1)

-- what is not whole or not within the limits is bad
limit_not : (x : Float) → (T (is_whole x) → 1000000 ≤ integer_of x → integer_of x ≤ 50000000 → ⊥) → None ≡ limit_of x
unfolding limit_of
limit_not x f = go (is_whole x) (in_limits (integer_of x)) (λ t b. let ends = within (integer_of x) (is_true (in_limits (integer_of x)) b) in f t ends.0 ends.1)
  where
    go : (a b : Bool) → (T a → T b → ⊥) → None ≡ cond (a && b) (Some (integer_of x)) None
    go true true g = absurd (g tt tt)
    go true false g = refl
    go false b g = refl

module _ (x : Float) (p : T (fits binary64 x)) where
  -- less than the limits, or more, when truncated
  pub limit_small : (n : ℕ) → n ≡ to_unsigned 64 x → n < 1000000 → None ≡ limit_of x
  limit_small n cut small = limit_not x (λ t low high. let same = (whole_is x p t).0 in omega arith)

  pub limit_large : (n : ℕ) → n ≡ to_unsigned 64 x → 50000000 < n → None ≡ limit_of x
  limit_large n cut large = limit_not x (λ t low high. let same = (whole_is x p t).0 in omega arith)

  -- something was lost when truncated
  pub limit_lost : (n : ℕ) → n ≡ to_unsigned 64 x → (to_bits binary64 (of_int binary64 (pos n)) ≡ to_bits binary64 x → ⊥) → None ≡ limit_of x
  limit_lost n cut other =
      limit_not x (λ t low high. let same = whole_is x p t in other (ap (λ (k : ℕ). to_bits binary64 (of_int binary64 (pos k))) (cut ∙ same.0) ∙ ap (to_bits binary64) same.1))

  -- a limit is the double itself, and within the limits
  pub limit_exact : (n : ℕ) → limit_of x ≡ Some n → (of_int binary64 (pos n) ≡ x) × (1000000 ≤ n) × (n ≤ 50000000)
  unfolding limit_of
  limit_exact n e =
      let taken = took_first (is_whole x && in_limits (integer_of x)) not_bad e in
      let same : integer_of x ≡ n = cc in
      let tests = both_true (is_whole x) (in_limits (integer_of x)) taken.0 in
      let ends = within (integer_of x) tests.1 in
      rw (← same) ((whole_is x p (subst T (sym tests.0) tt)).1, ends.0, ends.1)
    where
      not_bad : None ≡ Some n → ⊥
      not_bad z = clash cc

-- above -1 and below 2 ^ 64, where a double can be truncated to 64 bits
abbrev pub truncates : Float → Bool
truncates x = lt (fin true 1 (pos 0)) x && lt x (fin false 1 (pos 64))

-- the test of both, one by one
pub truncates_ends : (x : Float) → truncates x ≡ true → T (lt (fin true 1 (pos 0)) x) × T (lt x (fin false 1 (pos 64)))
truncates_ends x e =
    let ends = both_true (lt (fin true 1 (pos 0)) x) (lt x (fin false 1 (pos 64))) e in
    (subst T (sym ends.0) tt, subst T (sym ends.1) tt)

-- what is whole can be truncated
whole_truncates : (x : Float) → T (is_whole x) → T (truncates x)
unfolding lt in_unsigned
whole_truncates nan t = absurd t
whole_truncates (inf s) t = absurd t
whole_truncates (fin true m e) t = absurd (and_r (whole binary64 (fin true m e)) (false && ltb (m * up e / down e) (2 ^ 32)) t)
whole_truncates (fin false m e) t =
    let positive = down_pos e in
    let cut : m * up e / down e < 2 ^ 32 = ltb→lt (m * up e / down e) (2 ^ 32) (and_r (whole binary64 (fin false m e)) (true && ltb (m * up e / down e) (2 ^ 32)) t) in
    let small : m * up e < 2 ^ 32 * down e = (div-lt_iff_lt-mul positive).0 cut in
    and_i (lt (fin true 1 (pos 0)) (fin false m e)) (lt (fin false m e) (fin false 1 (pos 64))) (omega (arith, lt→ltb)) (omega (arith, lt→ltb))

-- what cannot be truncated is no limit
pub limit_far : (x : Float) → truncates x ≡ false → None ≡ limit_of x
limit_far x e = limit_not x (λ t low high. subst T e (whole_truncates x t))

-- the limit that was written is read back, wherever its eight bytes stand
pub limit_back : (s : List ℕ) (at n : ℕ) → at + 8 ≤ length s → part s at 8 ≡ bytes_of n → 1000000 ≤ n → n ≤ 50000000 → limit_of (of_bits binary64 (bits_at s at)) ≡ Some n
unfolding bytes_of
limit_back s at n inside same low high =
    let x : Float = of_int binary64 (pos n) in
    let p : T (fits binary64 x) = of_int-fits binary64 (pos n) in
    ap (λ (v : ℕ). limit_of (of_bits binary64 v)) (bits_there s at (to_bits binary64 x) inside (to_bits-lt binary64 x p) same)
    ∙ ap limit_of (of_bits-to_bits binary64 x p)
    ∙ limit_of_whole n low high
