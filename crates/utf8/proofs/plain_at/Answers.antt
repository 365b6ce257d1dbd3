-- `utf8::plain_at` meets its contract: a number of eight bytes has none of their highest bits exactly if they are below 128. Assumes nothing.
use mathlib.Core.Path.{◌≡◌, sym, ap, ◌∙◌}
use Prim.Native.Nat.{ℕ}
use native.Mathlib.Omega.{arith}
use lib.Bits.{bit_and}
use lib.ListN.{length}
use borrow.Author.Tests.{le-leb, eq-eqb, eqb-true}
use Rattle.bytes_be.specs.Part.{part}
use Rattle.bytes_be.proofs.Parts.{length_part, get_d_part}
use Rattle.bytes_be.proofs.Numbers.{bytes_part}
use Rattle.bytes_be.proofs.Words.{tops, low_bytes}
use Rattle.utf8.proofs.plain_at.Goals as goal

pub returns : goal.returns
unfolding tops
returns c =
    let s = c.args.s.now in
    let at = c.args.at in
    let eight : length (part s at 8) ≡ 8 = length_part s at 8 c.requires in
    let law = low_bytes (part s at 8) (bytes_part s at 8 (λ i. (c.type_inv.s i).fits)) in
    let said = simp (le-leb _ _ c.requires) at c.word_at.ensures in
    let bits = ap (λ (n : ℕ). bit_and c.word_at.result (tops n)) (sym eight) ∙ ap (λ (n : ℕ). bit_and n (tops (length (part s at 8)))) said in (
      λ e i less. rw (get_d_part s at 8 i 0 less) at (law.0 (sym bits ∙ eqb-true _ _ e) i (omega arith)),
      λ plain. eq-eqb _ _ (bits ∙ law.1 (λ i less. rw (get_d_part s at 8 i 0 (omega arith)) (plain i (omega arith)))),
    )
