-- `bytes` of `bytes_be::Number` at u8 meets its contract: a byte is its own last one. Assumes nothing.
use mathlib.Core.Path.{◌≡◌, ap, ◌∙◌}
use Prim.Native.Nat.{ℕ, ◌%◌}
use mathlib.Core.List.{[], ◌∷◌}
use native.Mathlib.Omega.{arith}
use Rattle.bytes_be.specs.Number.{to_bytes}
use Rattle.bytes_be.proofs.U8Number.bytes.Goals as goal

pub returns : goal.returns
unfolding to_bytes
returns c =
    let low : c.args.self ≡ c.args.self % 256 = omega (arith, c.ranges.self.fits) in
    c.to_be_bytes.ensures ∙ ap (λ (b : ℕ). b ∷ []) low
