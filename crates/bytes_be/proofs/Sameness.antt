-- Lists that are the same: what the test says, and that it is the standard library's. Assumes nothing.
use Prim.Native.Nat.{ℕ}
use mathlib.Core.Path.{◌≡◌, refl, ap, ap₂}
use mathlib.Core.List.{List, [], ◌∷◌}
use mathlib.Core.Bool.{Bool, true, false, ◌&&◌}
use lib.Dec.{eqb}
use lib.Pointwise.{pointwise}
use borrow.Author.Tests.{eq-eqb, eqb-true}
use Rattle.bytes_be.specs.Part.{same}
use Rattle.bytes_be.proofs.Tests.{both_true, clash}

false_not_true : {A : Type 0} → false ≡ true → A
false_not_true e = clash cc

-- the test says that they are equal
pub same_equal : (xs ys : List ℕ) → same xs ys ≡ true → xs ≡ ys
unfolding same
same_equal [] [] e = refl
same_equal [] (y ∷ ys) e = false_not_true e
same_equal (x ∷ xs) [] e = false_not_true e
same_equal (x ∷ xs) (y ∷ ys) e =
    let both = both_true (eqb x y) (same xs ys) e in
    ap₂ (λ (a : ℕ) (l : List ℕ). a ∷ l) (eqb-true x y both.0) (same_equal xs ys both.1)

pub equal_same : (xs : List ℕ) → same xs xs ≡ true
unfolding same
equal_same [] = refl
equal_same (x ∷ xs) = simp (eq-eqb x x refl, equal_same xs)

-- and of lists that are not, that they are not
pub not_same : (xs ys : List ℕ) → (xs ≡ ys → ⊥) → false ≡ same xs ys
not_same xs ys other = go (same xs ys) (same_equal xs ys)
  where
    go : (t : Bool) → (t ≡ true → xs ≡ ys) → false ≡ t
    go false f = refl
    go true f = absurd (other (f refl))

-- byte by byte the test is the standard library's
pub pointwise_same : (xs ys : List ℕ) → pointwise eqb xs ys ≡ same xs ys
unfolding same
pointwise_same [] [] = refl
pointwise_same [] (y ∷ ys) = refl
pointwise_same (x ∷ xs) [] = refl
pointwise_same (x ∷ xs) (y ∷ ys) = ap (λ (t : Bool). eqb x y && t) (pointwise_same xs ys)
