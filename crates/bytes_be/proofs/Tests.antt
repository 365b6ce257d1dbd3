-- Laws of tests that are joined, and of choices by a test. Assumes nothing.
use mathlib.Core.Path.{◌≡◌, refl}
use mathlib.Core.Bool.{Bool, true, false, ◌&&◌, ◌||◌, cond}
use Prim.Native.Nat.{ℕ}
use native.Mathlib.Omega.{arith}

-- what follows where two things cannot be equal and are: `clash cc` finds the contradiction among what is known
pub clash : {A : Type 0} → ◌≡◌ {A = ℕ} 0 1 → A
clash same = absurd (omega (arith, same))

-- both halves of a conjunction that holds
pub both_true : (a b : Bool) → a && b ≡ true → (a ≡ true) × (b ≡ true)
both_true true b e = (refl, e)
both_true false b e = clash cc

-- the second half of a disjunction that does not hold
pub last_false : (a b : Bool) → a || b ≡ false → b ≡ false
last_false true b e = clash cc
last_false false b e = e

module _ {A : Type 0} where
  -- a choice between the same
  pub either_way : (t : Bool) (a : A) → cond t a a ≡ a
  either_way true a = refl
  either_way false a = refl

  -- a choice that gives what its second answer cannot be has taken the first
  pub took_first : (t : Bool) {a b x : A} → (b ≡ x → ⊥) → cond t a b ≡ x → (t ≡ true) × (a ≡ x)
  took_first true other e = (refl, e)
  took_first false other e = absurd (other e)

  -- and the other way round
  pub took_second : (t : Bool) {a b x : A} → (a ≡ x → ⊥) → cond t a b ≡ x → (t ≡ false) × (b ≡ x)
  took_second true other e = absurd (other e)
  took_second false other e = (refl, e)
