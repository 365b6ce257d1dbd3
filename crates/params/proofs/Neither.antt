-- A number that is none of the six kinds of a Value. Assumes nothing.
use Prim.Native.Nat.{ℕ}
use mathlib.Core.Path.{◌≡◌}
use borrow.Author.Tests.{ne_eqb}
use Rattle.params.specs.Rules.{by_kind}

-- as a match over the six leaves it
abbrev pub NoKind : ℕ → Type 0
NoKind n = ((((((Unit {0} × (n ≡ 1 → ⊥)) × (n ≡ 2 → ⊥)) × (n ≡ 3 → ⊥)) × (n ≡ 4 → ⊥)) × (n ≡ 5 → ⊥)) × (n ≡ 6 → ⊥))

pub no_kind : {A : Type 0} (n : ℕ) (null number text bool struct list other : A) → NoKind n → other ≡ by_kind n null number text bool struct list other
no_kind n null number text bool struct list other rest =
    simp (
      ne_eqb n 1 rest.0.0.0.0.0.1,
      ne_eqb n 2 rest.0.0.0.0.1,
      ne_eqb n 3 rest.0.0.0.1,
      ne_eqb n 4 rest.0.0.1,
      ne_eqb n 5 rest.0.1,
      ne_eqb n 6 rest.1,
    )
