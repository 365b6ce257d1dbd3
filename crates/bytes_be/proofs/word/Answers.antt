-- `bytes_be::word` meets its contract: eight bytes are their elements one by one. Assumes nothing.
use mathlib.Core.Path.{◌≡◌, ap, ◌∙◌}
use Prim.Native.Nat.{ℕ, ◌+◌, ◌-◌}
use native.Mathlib.Omega.{arith}
use lib.ListN.{length}
use mathlib.Core.List.{List, reverse}
use Rattle.bytes_be.specs.Part.{part}
use Rattle.bytes_be.specs.Number.{from_bytes}
use Rattle.bytes_be.proofs.Parts.{length_part}
use Rattle.bytes_be.proofs.Words.{eight_say}
use Rattle.bytes_be.proofs.word.Goals as goal

pub returns : goal.returns
returns c =
    let s = c.args.s.now in
    let at = c.args.at in
    let eight : at + 8 - at ≡ 8 = omega arith in
    let bytes : c.in-Ok.bytes ≡ part s at 8 = c.in-Ok.ensures.1.same ∙ ap (λ (size : ℕ). part s at size) eight in
    let size : length c.in-Ok.bytes ≡ 8 = ap length bytes ∙ length_part s at 8 c.requires in
    let says = eight_say c.in-Ok.bytes size ∙ ap (λ (l : List ℕ). from_bytes (reverse l)) bytes in
    omega (arith, says, c.from_le_bytes.ensures)
