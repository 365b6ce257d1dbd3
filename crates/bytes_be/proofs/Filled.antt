-- A list that a loop copies another to, one element a turn; and a list's end, element by element. Assumes nothing.
use mathlib.Core.Path.{◌≡◌, sym, ap, ap₂, ◌∙◌}
use Prim.Native.Nat.{ℕ, zero, suc, ◌+◌, ◌<◌}
use mathlib.Core.List.{List, ◌∷◌, ◌++◌}
use native.Mathlib.Omega.{arith}
use lib.ListN.{length, get_or, drop, set, drop_of_length-le}
use lib.Seq.{drop-cons, set_at, append_snoc}
use Rattle.bytes_be.specs.Part.{tabulate, part}
use Rattle.bytes_be.proofs.Parts.{length_part, part_more}

-- where the first i elements are those of s from place `at` on, so are the first i + 1 after the next is copied
pub copy_more : {A : Type 0} (out s : List A) (at i : ℕ) (d : A) → i < length out → at + i < length s →
    set (part s at i ++ drop i out) i (get_or s (at + i) d) ≡ part s at (i + 1) ++ drop (i + 1) out
copy_more {A} out s at i d room inside =
    let x : A = get_or s (at + i) d in
    let next : suc i ≡ i + 1 = omega arith in
    ap (λ (l : List A). set (part s at i ++ l) i x) (drop-cons out i d room)
    ∙ set_at (part s at i) (get_or out i d) (drop (suc i) out) x i (length_part s at i (omega arith))
    ∙ sym (append_snoc (part s at i) x (drop (suc i) out))
    ∙ ap₂ (λ (l : List A) (k : ℕ). l ++ drop k out) (sym (part_more s at i d inside)) next

-- the last k elements of a list
pub last_elements : {A : Type 0} (d : A) (xs : List A) (i k : ℕ) → i + k ≡ length xs → drop i xs ≡ tabulate i k (λ j. get_or xs j d)
last_elements d xs i zero e = drop_of_length-le xs {i = i} (omega arith)
last_elements {A} d xs i (suc k) e =
    drop-cons xs i d (omega arith) ∙ ap (λ (rest : List A). get_or xs i d ∷ rest) (last_elements d xs (suc i) k (omega arith))
