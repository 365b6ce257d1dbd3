-- Runs of bytes below 128 in a text: how they are made up, and that a text which begins with one is what is behind it. Assumes nothing.
use Prim.Native.Nat.{ℕ, ◌+◌, ◌-◌, ◌≤◌, ◌<◌}
use mathlib.Core.Path.{◌≡◌, refl, sym, ap, ◌∙◌}
use mathlib.Core.List.{List, ◌++◌}
use mathlib.Core.Bool.{Bool, true, false}
use native.Mathlib.Omega.{arith}
use lib.Dec.{ltb}
use lib.ListN.{length, get_or, drop, take-append-drop}
use lib.Seq.{drop-drop}
use borrow.Author.Tests.{ltb-true, ltb-false}
use Rattle.bytes_be.specs.Part.{between}
use Rattle.bytes_be.proofs.Parts.{length_part, get_d_part}
use Rattle.utf8.specs.Text.{well_formed}
use Rattle.utf8.proofs.Texts.{low_run_in_front}

-- the bytes from one place up to another are below 128
abbrev pub Run : List ℕ → ℕ → ℕ → Type 0
Run s from to = (from ≤ to) × (to ≤ length s) × ((i : ℕ) → from ≤ i → i < to → get_or s i 0 < 128)

pub no_run : (s : List ℕ) (at : ℕ) → at ≤ length s → Run s at at
no_run s at inside = (omega arith, inside, λ i low high. absurd (omega arith))

-- one run right behind another
pub run_then : (s : List ℕ) (from at to : ℕ) → Run s from at → Run s at to → Run s from to
run_then s from at to front back = (omega (arith, front.0, back.0), back.1, λ i low high. go i (ltb i at) refl low high)
  where
    go : (i : ℕ) (t : Bool) → ltb i at ≡ t → from ≤ i → i < to → get_or s i 0 < 128
    go i true e low high = front.2 i low (ltb-true i at e)
    go i false e low high = back.2 i (ltb-false i at e) high

-- a run and so many bytes more
pub run_more : (s : List ℕ) (from at count to : ℕ) → at + count ≡ to → to ≤ length s → ((k : ℕ) → k < count → get_or s (at + k) 0 < 128) → Run s from at → Run s from to
run_more s from at count to end inside plain run = run_then s from at to run (omega arith, inside, λ i low high. byte i low (plain (i - at) (omega arith)))
  where
    byte : (i : ℕ) → at ≤ i → get_or s (at + (i - at)) 0 < 128 → get_or s i 0 < 128
    byte i low h = let here : at + (i - at) ≡ i = omega arith in rw here at h

-- a run and one byte more
pub run_one : (s : List ℕ) (from at : ℕ) → at < length s → get_or s at 0 < 128 → Run s from at → Run s from (at + 1)
run_one s from at inside low = run_more s from at 1 (at + 1) refl (omega arith) (λ k less. let here : at + k ≡ at = omega arith in rw here low)

-- behind a run the text comes to what it came to in front of it
pub run_passed : (s : List ℕ) (from to : ℕ) → Run s from to → well_formed (drop from s) ≡ well_formed (drop to s)
run_passed s from to run =
    let far : from + (to - from) ≡ to = omega (arith, run.0) in
    let inside : from + (to - from) ≤ length s = omega (arith, run.1) in
    let whole : drop from s ≡ between s from to ++ drop to s = sym (rw (drop-drop, far) at (take-append-drop (to - from) (drop from s))) in
    let size = length_part s from (to - from) inside in
    ap well_formed whole
    ∙ low_run_in_front (between s from to) (drop to s) (λ i less. rw (get_d_part s from (to - from) i 0 (omega arith)) (run.2 (from + i) (omega arith) (omega (arith, run.0))))
