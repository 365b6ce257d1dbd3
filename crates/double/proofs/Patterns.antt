-- Laws of NaN and of bit patterns: which patterns are NaN, which doubles are not, and that no two doubles have the same pattern.
-- Assumes nothing.
use Rattle.std.proofs.Common.{◌≡◌, ℕ, ◌%◌, ◌^◌, ◌<◌, ◌≤◌, Bool, true, false, not, T, pos, sym, refl, ap, ◌∙◌, subst, arith, le-ltb, lt-ltb}
use lib.Ieee.{Float, nan, inf, fin, binary64, of_bits, to_bits, of_int, fits, is_nan, nan_bits, lt, round}
use lib.Ieee.Bits.{nan_bits_is, nan_bits_above, of_bits-to_bits}
use lib.Ieee.Back.{round_whole}
use lib.Ieee.Exact.{HasValue}

-- there is one NaN
nan_is : (x : Float) → is_nan x ≡ true → x ≡ nan
unfolding is_nan
nan_is nan e = refl
nan_is (inf s) e = absurd (subst T (sym e) tt)
nan_is (fin s m d) e = absurd (subst T (sym e) tt)

-- a pattern above that of the infinity, its sign aside, is a NaN
pub nan_above : (bits : ℕ) → 0x7FF0_0000_0000_0000 < bits % 0x8000_0000_0000_0000 → nan ≡ of_bits binary64 bits
nan_above bits h =
    sym (nan_is (of_bits binary64 bits) (sym (nan_bits_is binary64 bits) ∙ nan_bits_above binary64 bits ∙ lt-ltb 0x7FF0_0000_0000_0000 (bits % 0x8000_0000_0000_0000) h))

-- and no other is
pub no_nan_up_to : (bits : ℕ) → bits % 0x8000_0000_0000_0000 ≤ 0x7FF0_0000_0000_0000 → T (not (nan_bits binary64 bits))
no_nan_up_to bits h =
    subst (λ (t : Bool). T (not t)) (sym (nan_bits_above binary64 bits ∙ le-ltb 0x7FF0_0000_0000_0000 (bits % 0x8000_0000_0000_0000) h)) tt

-- what has a value is no NaN
value_no_nan : (x : Float) (s : Bool) (a c : ℕ) → HasValue x s a c → T (not (is_nan x))
unfolding is_nan
value_no_nan nan s a c v = absurd v
value_no_nan (inf t) s a c v = tt
value_no_nan (fin t m e) s a c v = tt

-- the double of a whole number is no NaN
pub whole_no_nan : (n : ℕ) → n < 2 ^ 32 → T (not (is_nan (of_int binary64 (pos n))))
unfolding of_int
whole_no_nan n h = value_no_nan (round binary64 false n 1) false n 1 (round_whole binary64 false n (omega arith))

-- what is greater than something is no NaN
pub above_no_nan : (y x : Float) → lt y x ≡ true → T (not (is_nan x))
unfolding lt is_nan
above_no_nan nan nan e = absurd (subst T (sym e) tt)
above_no_nan (inf s) nan e = absurd (subst T (sym e) tt)
above_no_nan (fin s m d) nan e = absurd (subst T (sym e) tt)
above_no_nan y (inf s) e = tt
above_no_nan y (fin s m d) e = tt

-- doubles with the same pattern are the same
pub same_bits : (x y : Float) → T (fits binary64 x) → T (fits binary64 y) → to_bits binary64 x ≡ to_bits binary64 y → x ≡ y
same_bits x y p q e = sym (of_bits-to_bits binary64 x p) ∙ ap (of_bits binary64) e ∙ of_bits-to_bits binary64 y q
