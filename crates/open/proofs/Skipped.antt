-- A field whose number is none of 1 to 4 is one that is skipped. Assumes nothing.
use Prim.Native.Nat.{ℕ}
use mathlib.Core.Path.{◌≡◌}
use borrow.Author.Tests.{ne_eqb}
use Rattle.open.specs.Frame.{by_field}

-- as a match over the four leaves it
abbrev pub NoField : ℕ → Type 0
NoField number = ((((Unit {0} × (number ≡ 1 → ⊥)) × (number ≡ 2 → ⊥)) × (number ≡ 3 → ⊥)) × (number ≡ 4 → ⊥))

pub skipped : {A : Type 0} (number : ℕ) (pipe socket format parameters other : A) → NoField number → other ≡ by_field number pipe socket format parameters other
skipped number pipe socket format parameters other rest =
    simp (ne_eqb number 1 rest.0.0.0.1, ne_eqb number 2 rest.0.0.1, ne_eqb number 3 rest.0.1, ne_eqb number 4 rest.1)
