-- `bytes_be::read` meets its contract: past the test for room, the bytes are as many as the number has. Assumes nothing.
use mathlib.Core.Path.{◌≡◌, sym, ap, ◌∙◌}
use Prim.Native.Nat.{ℕ, ◌+◌, ◌-◌, ◌^◌, ◌≤◌, ◌<◌}
use native.Mathlib.Nat.{one-le-pow, mod-eq_of_lt}
use native.Mathlib.Omega.{arith}
use lib.Dec.{lit<}
use lib.ListN.{length}
use borrow.Author.Tests.{le-leb, leb-true}
use Rattle.bytes_be.specs.Part.{part}
use Rattle.bytes_be.specs.Number.{from_bytes, number_at}
use Rattle.bytes_be.proofs.Parts.{length_part}
use Rattle.bytes_be.proofs.read.Goals as goal

pub returns-then-not-fits : goal.returns-then-not-fits
unfolding number_at
returns-then-not-fits g c =
    let none = c.of.ensures ∙ mod-eq_of_lt (one-le-pow g.N.Number.WIDTH 256 (lit< tt)) in
    none ∙ simp (sym c.WIDTH-width.ensures, sym c.holds-fits.ensures, c.if-not-fits.true)

pub returns : goal.returns
unfolding number_at
returns g c =
    let s = c.args.s.now in
    let at = c.args.at in
    let width = c.WIDTH-width.result in
    let room : at + width ≤ length s = leb-true _ _ (sym c.holds-fits.ensures ∙ c.if-not-fits.false) in
    let all : at + width - at ≡ width = omega arith in
    let says : c.number_of.result ≡ from_bytes (part s at width) = c.number_of.ensures.0 ∙ ap (λ (size : ℕ). from_bytes (part s at size)) all in
    let small : c.number_of.result < 256 ^ width = rw (all, length_part s at width room) at c.number_of.ensures.1 in
    c.of-2.ensures ∙ rw (← c.WIDTH-width.ensures) (mod-eq_of_lt small ∙ says ∙ simp (le-leb _ _ room))
