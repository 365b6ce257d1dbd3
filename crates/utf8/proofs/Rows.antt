-- Laws of whether a range has a byte, and of the ranges that a count stands for. Assumes nothing.
use Prim.Native.Nat.{ℕ, zero, suc, ◌-◌, ◌≤◌}
use mathlib.Core.Path.{◌≡◌, refl}
use mathlib.Core.List.{◌∷◌}
use mathlib.Core.Bool.{true}
use native.Mathlib.Omega.{arith}
use lib.Dec.{leb-zero}
use borrow.Author.Tests.{le-leb}
use Rattle.utf8.specs.Text.{◌‥◌, within}
use Rattle.utf8.specs.Held.{ranges}

-- a range from 0 on has each byte up to its end
pub within_low : {b to : ℕ} → b ≤ to → within (0 ‥ to) b ≡ true
within_low {b} {to} h = simp (leb-zero b) (le-leb b to h)

-- where bytes are due, the first range is the one that is held
pub ranges_some : {count : ℕ} → (count ≡ 0 → ⊥) → (from to : ℕ) → ranges count from to ≡ from ‥ to ∷ ranges (count - 1) 0x80 0xBF
unfolding ranges
ranges_some {count = zero} some from to = absurd (some refl)
ranges_some {count = suc more} some from to =
    let less : suc more - 1 ≡ more = omega arith in
    rw less
