-- Of the confirmations awaited those that belong to DATA: how many there are, and what one more and one less make of that. Assumes nothing.
use mathlib.Core.Path.{◌≡◌, refl, sym, ap, ◌∙◌}
use Prim.Native.Nat.{ℕ, zero, suc, ◌+◌, ◌-◌, ◌≤◌, ◌<◌}
use mathlib.Core.List.{List, [], ◌∷◌, ◌++◌}
use mathlib.Core.Bool.{Bool, ◌&&◌, cond, true, false}
use native.Mathlib.Omega.{arith}
use native.Mathlib.Nat.{add-zero}
use native.Mathlib.Numerals.{add-one}
use lib.Dec.{eqb, ltb}
use lib.ListN.{length, length-append}
use borrow.Author.Tests.{lt-ltb}
use Rattle.bytes_be.specs.Part.{tabulate}
use Rattle.bytes_be.proofs.Parts.{tabulate_more, tabulate_same}
use Rattle.endpoint.specs.declared.Entry.{Entry}
use Rattle.endpoint.specs.Record.{capacity, of_data, read_off, reports_in, unconfirmed_with, unconfirmed_without}

-- what is read off two lists, one behind the other
module _ {A : Type 0} (test : A → Bool) (number : A → ℕ) where
  pub read_off_append : (a b : List A) → read_off test number (a ++ b) ≡ read_off test number a ++ read_off test number b
  read_off_append [] b = refl
  read_off_append (x ∷ rest) b = go (test x) (read_off_append rest b)
    where
      go : (t : Bool) {both : List ℕ} → both ≡ read_off test number rest ++ read_off test number b
          → cond t (number x ∷ both) both ≡ cond t (number x ∷ read_off test number rest) (read_off test number rest) ++ read_off test number b
      go true same = ap (λ (l : List ℕ). number x ∷ l) same
      go false same = same

pub reports_append : (a b : List Entry) → reports_in (a ++ b) ≡ reports_in a ++ reports_in b
reports_append = read_off_append of_data (λ entry. entry.type_data)

-- one element more
pub tabulate_next : (f : ℕ → Entry) (count : ℕ) → tabulate 0 (suc count) f ≡ tabulate 0 count f ++ (f count ∷ [])
tabulate_next f count =
    let last : 0 + count ≡ count = omega arith in
    ap (λ (k : ℕ). tabulate 0 k f) (sym (add-one count)) ∙ tabulate_more f 0 count ∙ ap (λ (k : ℕ). tabulate 0 count f ++ (f k ∷ [])) last

-- how many
abbrev pub reports : List Entry → ℕ
reports entries = length (reports_in entries)

reports_of : (a b : List Entry) → reports (a ++ b) ≡ reports a + reports b
reports_of a b = ap length (reports_append a b) ∙ length-append (reports_in a) (reports_in b)

-- of one entry, by its type alone
pub report_of : (entry : Entry) → reports (entry ∷ []) ≡ cond (of_data entry) 1 0
report_of entry = go (of_data entry)
  where
    go : (t : Bool) → length (cond t (entry.type_data ∷ []) []) ≡ cond t 1 0
    go true = refl
    go false = refl

report_few : (entry : Entry) → reports (entry ∷ []) ≤ 1
report_few entry = go (of_data entry) (report_of entry)
  where
    go : (t : Bool) → reports (entry ∷ []) ≡ cond t 1 0 → reports (entry ∷ []) ≤ 1
    go true one = omega (arith, one)
    go false none = omega (arith, none)

module _ (f : ℕ → Entry) where
  pub reports_more : (count : ℕ) → reports (tabulate 0 (suc count) f) ≡ reports (tabulate 0 count f) + reports (f count ∷ [])
  reports_more count = ap reports (tabulate_next f count) ∙ reports_of (tabulate 0 count f) (f count ∷ [])

  -- at most all
  pub reports_few : (count : ℕ) → reports (tabulate 0 count f) ≤ count
  reports_few zero = omega arith
  reports_few (suc count) = omega (arith, reports_more count, reports_few count, report_few (f count))

-- one of them is taken out: those in front of it stay, and those behind it move up
module _ (f g : ℕ → Entry) (i : ℕ) (kept : (k : ℕ) → k < i → g k ≡ f k) (moved : (k : ℕ) → i ≤ k → g k ≡ f (suc k)) where
  reports_out : (behind : ℕ) → reports (tabulate 0 (suc (i + behind)) f) ≡ reports (tabulate 0 (i + behind) g) + reports (f i ∷ [])
  reports_out zero =
      let same : reports (tabulate 0 i g) ≡ reports (tabulate 0 i f) =
      ap reports (tabulate_same g f 0 0 i (λ k inside. kept (0 + k) (omega arith))) in
      rw (add-zero i) (omega (arith, reports_more f i, same))
  reports_out (suc behind) =
      let longer : i + suc behind ≡ suc (i + behind) = omega arith in
      let last = ap (λ (entry : Entry). reports (entry ∷ [])) (moved (i + behind) (omega arith)) in
      rw longer (omega (arith, reports_more f (suc (i + behind)), reports_more g (i + behind), last, reports_out behind))

  -- and the count is one less where it is of DATA
  pub reports_without : (w unconfirmed : ℕ) → i ≤ w - 1 → unconfirmed ≡ reports (tabulate 0 w f)
      → unconfirmed_without unconfirmed (f i) ≡ reports (tabulate 0 (w - 1) g)
  unfolding unconfirmed_without
  reports_without zero unconfirmed inside told = go (of_data (f i))
    where
      go : (t : Bool) → cond t (unconfirmed - 1) unconfirmed ≡ 0
      go true = omega (arith, told)
      go false = told
  reports_without (suc k) unconfirmed inside told =
      let before : suc (i + (k - i)) ≡ suc k = omega arith in
      let after : i + (k - i) ≡ suc k - 1 = omega arith in
      let whole = ap (λ (n : ℕ). reports (tabulate 0 n f)) (sym before) ∙ reports_out (k - i)
      ∙ ap (λ (n : ℕ). reports (tabulate 0 n g) + reports (f i ∷ [])) after in
      go (of_data (f i)) (told ∙ whole) (report_of (f i))
    where
      go : (t : Bool) → unconfirmed ≡ reports (tabulate 0 (suc k - 1) g) + reports (f i ∷ []) → reports (f i ∷ []) ≡ cond t 1 0
          → cond t (unconfirmed - 1) unconfirmed ≡ reports (tabulate 0 (suc k - 1) g)
      go true whole one = omega (arith, whole, one)
      go false whole none = omega (arith, whole, none)

-- one more behind the first W: the count is one more where it is of DATA
module _ (f g : ℕ → Entry) (entry : Entry) where
  pub reports_with : (w unconfirmed : ℕ) → w < capacity → ((k : ℕ) → k < w → g k ≡ f k) → (g w).message ≡ entry.message
      → unconfirmed ≡ reports (tabulate 0 w f) → unconfirmed_with unconfirmed entry ≡ reports (tabulate 0 (w + 1) g)
  unfolding unconfirmed_with
  reports_with w unconfirmed room kept typed told =
      let same : reports (tabulate 0 w g) ≡ reports (tabulate 0 w f) =
      ap reports (tabulate_same g f 0 0 w (λ k inside. kept (0 + k) (omega arith))) in
      let longer = ap (λ (k : ℕ). reports (tabulate 0 k g)) (add-one w) in
      go (of_data entry) (omega (arith, told, reports_few f w)) (report_of (g w) ∙ ap (λ (message : ℕ). cond (eqb message 4) 1 0) typed)
      (omega (arith, longer, reports_more g w, same, told))
    where
      go : (t : Bool) → unconfirmed < capacity → reports (g w ∷ []) ≡ cond t 1 0
          → reports (tabulate 0 (w + 1) g) ≡ unconfirmed + reports (g w ∷ [])
          → cond (ltb unconfirmed capacity && t) (unconfirmed + 1) unconfirmed ≡ reports (tabulate 0 (w + 1) g)
      go true few one whole = simp (lt-ltb unconfirmed capacity few) (omega (arith, whole, one))
      go false few none whole = simp (lt-ltb unconfirmed capacity few) (omega (arith, whole, none))
