-- The steps of one pass over a text, which stands at the start of a sequence after each. Assumes nothing.
use Prim.Native.Nat.{ℕ, ◌≤◌}
use mathlib.Core.Path.{◌≡◌, refl, sym, ◌∙◌}
use mathlib.Core.List.{List}
use mathlib.Core.Bool.{Bool, true, false}
use lib.ListN.{length, drop, drop_of_length-le}
use Rattle.utf8.specs.Text.{rest, well_formed}
use Rattle.utf8.proofs.Runs.{Run, run_passed}

-- w is what the whole text comes to, and is known to be what comes of it from place i on
module _ (w : Bool) (s : List ℕ) (i : ℕ) (known : w ≡ well_formed (drop i s)) where
  pub at_end : length s ≤ i → true ≡ w
  unfolding well_formed rest
  at_end h = sym (known ∙ rw (drop_of_length-le s {i = i} h) refl)

  -- none of the table is there
  pub at_none : well_formed (drop i s) ≡ false → false ≡ w
  at_none e = sym (known ∙ e)

  -- a sequence is there, and a run behind it
  pub at_sequence : (next : ℕ) → well_formed (drop i s) ≡ well_formed (drop next s) → (to : ℕ) → Run s next to → w ≡ well_formed (drop to s)
  at_sequence next told to run = known ∙ told ∙ run_passed s next to run
