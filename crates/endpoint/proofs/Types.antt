-- The types of entries that fit, added up: the first W have 3 or 4 and the others 0, so the sum tells how many are of DATA. Assumes nothing.
use mathlib.Core.Path.{◌≡◌, refl, sym, ap, ◌∙◌}
use Prim.Native.Nat.{ℕ, zero, suc, ◌+◌, ◌-◌, ◌*◌, ◌≤◌}
use mathlib.Core.List.{List, [], ◌∷◌, ◌++◌}
use mathlib.Core.Bool.{Bool, ◌&&◌, ◌||◌, cond, true, false, false≢true}
use native.Mathlib.Omega.{arith}
use lib.Dec.{eqb}
use borrow.Author.Tests.{eq-eqb, eqb-false, eqb-true, le-ltb, lt-ltb, ne_eqb}
use Rattle.bytes_be.specs.Part.{tabulate}
use Rattle.bytes_be.proofs.Tests.{both_true}
use Rattle.endpoint.specs.declared.Entry.{Entry}
use Rattle.endpoint.specs.Record.{awaitable, every, fits, is_none, of_data, producer}
use Rattle.endpoint.proofs.Reports.{report_of, reports, reports_more, tabulate_next}

abbrev pub types_in : List Entry → ℕ
types_in [] = 0
types_in (entry ∷ rest) = entry.message + types_in rest

types_last : (a : List Entry) (entry : Entry) → types_in (a ++ (entry ∷ [])) ≡ types_in a + entry.message
types_last [] entry = omega arith
types_last (first ∷ rest) entry = omega (arith, types_last rest entry)

pub types_more : (f : ℕ → Entry) (count : ℕ) → types_in (tabulate 0 (suc count) f) ≡ types_in (tabulate 0 count f) + (f count).message
types_more f count = ap types_in (tabulate_next f count) ∙ types_last (tabulate 0 count f) (f count)

-- an entry that may be awaited, and one that is none
awaited_type : (flow : ℕ) (entry : Entry) → awaitable flow entry ≡ true → entry.message ≡ 3 + reports (entry ∷ [])
unfolding awaitable
awaited_type flow entry = go (eqb entry.message 3) refl (of_data entry) refl (report_of entry)
  where
    go : (t : Bool) → eqb entry.message 3 ≡ t → (u : Bool) → of_data entry ≡ u → reports (entry ∷ []) ≡ cond u 1 0
        → t || (u && eqb flow producer) ≡ true → entry.message ≡ 3 + reports (entry ∷ [])
    go true three true four one may = absurd (omega (arith, eqb-true entry.message 3 three, eqb-true entry.message 4 four))
    go true three false other none may = omega (arith, eqb-true entry.message 3 three, none)
    go false other true four one may = omega (arith, eqb-true entry.message 4 four, one)
    go false other false neither none may = absurd (false≢true may)

none_type : (entry : Entry) → is_none entry ≡ true → entry.message ≡ 0
unfolding is_none
none_type entry none = eqb-true entry.message 0 (both_true (eqb entry.message 0) (eqb entry.type_data 0) none).0

module _ (f : ℕ → Entry) (flow w : ℕ) where
  abbrev fits_at : ℕ → Bool
  fits_at i = fits flow w (f i) i

  -- among the first W
  types_before : (count : ℕ) → count ≤ w → every count fits_at ≡ true → types_in (tabulate 0 count f) ≡ 3 * count + reports (tabulate 0 count f)
  types_before zero inside all = refl
  types_before (suc count) inside all =
      let both = both_true (every count fits_at) (fits_at count) all in
      let may : awaitable flow (f count) ≡ true = simp (lt-ltb count w inside) at both.1 in
      let here = awaited_type flow (f count) may in
      omega (arith, types_more f count, types_before count (omega arith) both.0, here, reports_more f count)

  -- and behind them
  none_behind : (i : ℕ) → w ≤ i → fits_at i ≡ true → (f i).message ≡ 0
  none_behind i behind fit = none_type (f i) (simp (le-ltb i w behind) at fit)

  types_behind : (more : ℕ) → every (w + more) fits_at ≡ true → types_in (tabulate 0 (w + more) f) ≡ 3 * w + reports (tabulate 0 w f)
  types_behind zero all =
      let same : w + 0 ≡ w = omega arith in
      ap (λ (k : ℕ). types_in (tabulate 0 k f)) same ∙ types_before w (omega arith) (sym (ap (λ (k : ℕ). every k fits_at) same) ∙ all)
  types_behind (suc more) all =
      let longer : w + suc more ≡ suc (w + more) = omega arith in
      let both = both_true (every (w + more) fits_at) (fits_at (w + more)) (sym (ap (λ (k : ℕ). every k fits_at) longer) ∙ all) in
      ap (λ (k : ℕ). types_in (tabulate 0 k f)) longer
      ∙ omega (arith, types_more f (w + more), types_behind more both.0, none_behind (w + more) (omega arith) both.1)

  -- so the test of the sum is that of the count
  pub types_tell : (count unconfirmed : ℕ) → w ≤ count
      → every count fits_at && eqb (types_in (tabulate 0 count f)) (3 * w + unconfirmed)
      ≡ every count fits_at && eqb unconfirmed (reports (tabulate 0 w f))
  types_tell count unconfirmed within = go (every count fits_at) refl (eqb unconfirmed (reports (tabulate 0 w f))) refl
    where
      whole : every count fits_at ≡ true → types_in (tabulate 0 count f) ≡ 3 * w + reports (tabulate 0 w f)
      whole all =
          let there : w + (count - w) ≡ count = omega arith in
          ap (λ (k : ℕ). types_in (tabulate 0 k f)) (sym there)
          ∙ types_behind (count - w) (ap (λ (k : ℕ). every k fits_at) there ∙ all)

      go : (t : Bool) → every count fits_at ≡ t → (u : Bool) → eqb unconfirmed (reports (tabulate 0 w f)) ≡ u
          → t && eqb (types_in (tabulate 0 count f)) (3 * w + unconfirmed) ≡ t && u
      go true all true same =
          eq-eqb (types_in (tabulate 0 count f)) (3 * w + unconfirmed) (omega (arith, whole all, eqb-true unconfirmed (reports (tabulate 0 w f)) same))
      go true all false other =
          ne_eqb (types_in (tabulate 0 count f)) (3 * w + unconfirmed)
          (λ equal. eqb-false unconfirmed (reports (tabulate 0 w f)) other (omega (arith, whole all, equal)))
      go false _ u _ = refl
