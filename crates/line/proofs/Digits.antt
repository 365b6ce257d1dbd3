-- The fewest digits that hold a number are the number in decimal. Assumes nothing.
use mathlib.Core.Path.{◌≡◌, refl}
use mathlib.Core.List.{[], ◌∷◌, ◌++◌}
use mathlib.Core.Bool.{Bool, true, false, cond}
use Prim.Native.Nat.{ℕ, zero, suc, ◌+◌, ◌-◌, ◌/◌, ◌%◌, ◌^◌, ◌≤◌, ◌<◌}
use native.Mathlib.Nat.{one-le-pow, pow-le-pow_right}
use native.Mathlib.Omega.{arith}
use lib.ListN.{length, length-append}
use lib.Dec.{ltb, lit<}
use borrow.Author.Tests.{ltb-true, ltb-false, lt-ltb, le-ltb}
use Rattle.io.specs.Digits.{hex_digit_ascii, last_digits, IsDigitCount}
use Rattle.line.specs.Text.{decimal_within, decimal}

pub decimal_short : (most n : ℕ) → length (decimal_within most n) ≤ most
unfolding decimal_within
decimal_short zero n = omega arith
decimal_short (suc most) n = go (ltb n 10) (decimal_short most (n / 10))
  where
    go : (t : Bool) → length (decimal_within most (n / 10)) ≤ most → length (cond t ((48 + n) ∷ []) (decimal_within most (n / 10) ++ ((48 + n % 10) ∷ []))) ≤ suc most
    go true rest = omega arith
    go false rest = simp length-append (omega arith)

glyph_is : (n : ℕ) → hex_digit_ascii (n % 10) ≡ 48 + n % 10
glyph_is n = simp (lt-ltb (n % 10) 10 (omega arith))

-- of `more` digits behind the first, none is a zero in front
digits_are : (most more n : ℕ) → more < most → n < 10 ^ suc more → (0 < more → 10 ^ more ≤ n) → last_digits 10 (suc more) n ≡ decimal_within most n
unfolding decimal_within
digits_are zero more n enough small large = absurd (omega arith)
digits_are (suc most) zero n enough small large =
    let whole : n % 10 ≡ n = omega arith in
    simp (lt-ltb n 10 (omega arith), whole)
digits_are (suc most) (suc more) n enough small large =
    let first : 10 ^ suc more ≤ n = large (omega arith) in
    simp (le-ltb n 10 (omega (arith, one-le-pow more 10 (lit< tt))), glyph_is n, digits_are most more (n / 10) (omega arith) (omega arith) (λ h. omega arith))

few_digits : (n more : ℕ) → n < 2 ^ 64 → (0 < more → 10 ^ more ≤ n) → more < 20
few_digits n more small large = go (ltb more 20) refl
  where
    go : (t : Bool) → ltb more 20 ≡ t → more < 20
    go true e = ltb-true more 20 e
    go false e =
        let many : 20 ≤ more = ltb-false more 20 e in
        absurd (omega (arith, large (omega arith), pow-le-pow_right {n = 10} (lit< tt) {i = 20} {j = more} many))

pub decimal_is : (n count : ℕ) → n < 2 ^ 64 → IsDigitCount 10 1 n count → last_digits 10 count n ≡ decimal n
unfolding decimal
decimal_is n zero small h = absurd (omega arith)
decimal_is n (suc more) small h =
    let last : suc more - 1 ≡ more = omega arith in
    let large : 0 < more → 10 ^ more ≤ n = λ some. rw last at (h.2 (omega arith)) in
    digits_are 20 more n (few_digits n more small large) h.1 large
