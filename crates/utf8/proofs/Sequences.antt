-- Laws of the sequence at a place of a text: whether the bytes that are due stand there, and what the text comes to with it. Assumes nothing.
use Prim.Native.Nat.{ℕ, zero, suc, ◌+◌, ◌-◌, ◌≤◌, ◌<◌}
use mathlib.Core.Path.{◌≡◌, refl, sym, ◌∙◌}
use mathlib.Core.List.{List, [], ◌∷◌}
use mathlib.Core.Bool.{Bool, true, false, ◌&&◌}
use native.Mathlib.Numerals.{add-one}
use native.Mathlib.Omega.{arith}
use lib.Dec.{ltb}
use lib.ListN.{length, get_or, take, drop, length-take, length-drop}
use lib.Seq.{drop-cons, drop-drop}
use borrow.Author.Tests.{ltb-true, ltb-false}
use Rattle.bytes_be.specs.Part.{part}
use Rattle.bytes_be.proofs.Tests.{clash}
use Rattle.std.specs.Prelude.{Some, None}
use Rattle.std.specs.Prelude.{Option as Prelude·Option}
use Rattle.utf8.specs.declared.Due.{Due}
use Rattle.utf8.specs.Text.{◌‥◌, within, table, due_behind, if_some, rest, well_formed}
use Rattle.utf8.specs.Held.{ranges, ranges_of}
use Rattle.utf8.proofs.Rows.{ranges_some}

-- where there are fewer bytes than are due, those due do not all stand there
too_short : (count from to : ℕ) (text : List ℕ) → length text < count → rest (ranges count from to) text ≡ false
unfolding rest ranges
too_short zero from to text short = absurd (omega arith)
too_short (suc more) from to [] short = refl
too_short (suc more) from to (b ∷ text) short = go (within (from ‥ to) b) (too_short more 0x80 0xBF text (omega arith))
  where
    go : (t : Bool) {u : Bool} → u ≡ false → t && u ≡ false
    go true e = e
    go false e = refl

pub few_left : (s : List ℕ) (at count from to : ℕ) → length s - at < count → rest (ranges count from to) (part s at count) ≡ false
few_left s at count from to few = too_short count from to (part s at count) (simp (length-take, length-drop) (omega arith))

-- a text is one that begins with them and goes on as a text
due_first : (count from to : ℕ) (text : List ℕ) → rest (ranges count from to) text ≡ rest (ranges count from to) (take count text) && well_formed (drop count text)
unfolding rest ranges well_formed
due_first zero from to text = refl
due_first (suc more) from to [] = refl
due_first (suc more) from to (b ∷ text) = go (within (from ‥ to) b) _ _ _ (due_first more 0x80 0xBF text)
  where
    go : (t u v w : Bool) → u ≡ v && w → t && u ≡ (t && v) && w
    go true u v w e = e
    go false u v w e = refl

-- one byte that is due: it is in its range, and the others follow
due_step : (s : List ℕ) (left lowest highest i : ℕ) → (left ≡ 0 → ⊥) → i + left ≤ length s →
    rest (ranges left lowest highest) (part s i left) ≡ within (lowest ‥ highest) (get_or s i 0) && rest (ranges (left - 1) 0x80 0xBF) (part s (i + 1) (left - 1))
unfolding rest
due_step s zero lowest highest i some inside = absurd (some refl)
due_step s (suc more) lowest highest i some inside =
    let less : suc more - 1 ≡ more = omega arith in
    rw (ranges_some some lowest highest, less, drop-cons s i 0 (omega arith), add-one) refl

-- w is whether all that are due stand there, and is known to be whether those that are left stand from place i on
module _ (w : Bool) (s : List ℕ) (left lowest highest i : ℕ) (known : w ≡ rest (ranges left lowest highest) (part s i left)) where
  pub none_left : left ≡ 0 → true ≡ w
  unfolding rest ranges
  none_left e = sym (known ∙ rw e refl)

  module _ (some : left ≡ 0 → ⊥) (inside : i + left ≤ length s) where
    pub one_stands : within (lowest ‥ highest) (get_or s i 0) ≡ true → w ≡ rest (ranges (left - 1) 0x80 0xBF) (part s (i + 1) (left - 1))
    one_stands e = known ∙ due_step s left lowest highest i some inside ∙ rw e refl

    pub one_fails : within (lowest ‥ highest) (get_or s i 0) ≡ false → false ≡ w
    one_fails e = sym (known ∙ due_step s left lowest highest i some inside ∙ rw e refl)

-- i is the place of a first byte, and `next` what is due behind it
module _ (s : List ℕ) (i : ℕ) (here : i < length s) (next : Prelude·Option Due) (behind : ranges_of next ≡ due_behind table (get_or s i 0)) where
  begun : well_formed (drop i s) ≡ if_some (ranges_of next) (λ due. rest due (drop (i + 1) s))
  unfolding well_formed rest
  begun = rw (drop-cons s i 0 here, behind, add-one)

  -- no row of the table has the byte
  pub no_row : next ≡ None → well_formed (drop i s) ≡ false
  unfolding ranges_of
  no_row e = begun ∙ rw e

  module _ {due : Due} (row : next ≡ Some due) where
    apart : well_formed (drop i s) ≡ rest (ranges due.count due.from due.to) (part s (i + 1) due.count) && well_formed (drop (i + 1 + due.count) s)
    unfolding ranges_of
    apart = begun ∙ rw row (due_first due.count due.from due.to (drop (i + 1) s) ∙ rw drop-drop refl)

    -- the bytes that are due do not stand there
    pub not_whole : rest (ranges due.count due.from due.to) (part s (i + 1) due.count) ≡ false → well_formed (drop i s) ≡ false
    not_whole e = apart ∙ rw e

    -- they do
    pub whole : rest (ranges due.count due.from due.to) (part s (i + 1) due.count) ≡ true → (i < i + 1 + due.count) × (i + 1 + due.count ≤ length s) × (well_formed (drop i s) ≡ well_formed (drop (i + 1 + due.count) s))
    whole e = (omega arith, go (ltb (length s - (i + 1)) due.count) refl, apart ∙ rw e refl)
      where
        go : (t : Bool) → ltb (length s - (i + 1)) due.count ≡ t → i + 1 + due.count ≤ length s
        go true few =
            let no = few_left s (i + 1) due.count due.from due.to (ltb-true (length s - (i + 1)) due.count few) in
            clash cc
        go false enough = omega (arith, ltb-false (length s - (i + 1)) due.count enough)
