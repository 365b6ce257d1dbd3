-- What may stand in front of a text and change nothing: a byte below 128, a run of them, a text. Assumes nothing.
use Prim.Native.Nat.{ℕ, suc, ◌≤◌, ◌<◌}
use mathlib.Core.Path.{◌≡◌, refl, sym, ◌∙◌}
use mathlib.Core.List.{List, [], ◌∷◌, ◌++◌}
use mathlib.Core.Bool.{Bool, true, false, ◌&&◌, cond}
use mathlib.Core.Option.{Option, none, some}
use native.Mathlib.Omega.{arith}
use Rattle.bytes_be.proofs.Words.{Low}
use Rattle.utf8.specs.Text.{Range, within, table, due_behind, if_some, rest, well_formed}
use Rattle.utf8.specs.Held.{due_after}
use Rattle.utf8.proofs.Rows.{within_low}

pub low_in_front : (b : ℕ) (l : List ℕ) → b < 128 → well_formed (b ∷ l) ≡ well_formed l
unfolding well_formed rest due_behind table
low_in_front b l h =
    let low : b ≤ 0x7F = omega arith in
    simp (within_low low)

pub low_run_in_front : (xs l : List ℕ) → Low xs → well_formed (xs ++ l) ≡ well_formed l
low_run_in_front [] l h = refl
low_run_in_front (b ∷ xs) l h =
    low_in_front b (xs ++ l) (h 0 (omega arith)) ∙ low_run_in_front xs l (λ i less. h (suc i) (omega arith))

-- one byte more: the rest behind it is a text that owes what is then due
rest_step : (due : List Range) (b : ℕ) (l : List ℕ) → rest due (b ∷ l) ≡ if_some (due_after due b) (λ next. rest next l)
unfolding rest due_after
rest_step [] b l = refl
rest_step (range ∷ due) b l = go (within range b)
  where
    go : (t : Bool) → t && rest due l ≡ if_some (cond t (some due) none) (λ next. rest next l)
    go true = refl
    go false = refl

-- where ranges are due in front too: a text that begins with them ends with none due
rest_append : (xs ys : List ℕ) (due : List Range) → rest due xs ≡ true → rest due (xs ++ ys) ≡ rest [] ys
unfolding rest
rest_append [] ys [] e = refl
rest_append [] ys (range ∷ due) e = let z : ◌≡◌ {A = ℕ} 0 1 = cc in absurd (omega arith)
rest_append (b ∷ xs) ys due e = rest_step due b (xs ++ ys) ∙ go (rest_append xs ys) (due_after due b) (sym (rest_step due b xs) ∙ e)
  where
    go : ((next : List Range) → rest next xs ≡ true → rest next (xs ++ ys) ≡ rest [] ys) → (next : Option (List Range)) → if_some next (λ d. rest d xs) ≡ true → if_some next (λ d. rest d (xs ++ ys)) ≡ rest [] ys
    go behind none e = let z : ◌≡◌ {A = ℕ} 0 1 = cc in absurd (omega arith)
    go behind (some next) e = behind next e

pub text_in_front : (xs ys : List ℕ) → well_formed xs ≡ true → well_formed (xs ++ ys) ≡ well_formed ys
unfolding well_formed
text_in_front xs ys e = rest_append xs ys [] e
