-- `endpoint::Endpoint::each_fits` meets its contract: the loop keeps the test of every entry below i, and the sum of their types.
-- Assumes nothing.
use mathlib.Core.Path.{◌∙◌, ◌≡◌, ap, ap₂, sym}
use Prim.Native.Nat.{◌+◌, ◌*◌, ℕ}
use mathlib.Core.Bool.{Bool, ◌&&◌}
use native.Mathlib.Numerals.{add-one}
use native.Mathlib.Omega.{arith}
use lib.Dec.{eqb}
use lib.ListN.{length}
use borrow.Author.Rules.{rules}
use Rattle.bytes_be.specs.Part.{tabulate}
use Rattle.endpoint.specs.declared.Entry.{Entry}
use Rattle.endpoint.specs.Record.{entry_at, every, fits}
use Rattle.endpoint.proofs.Entries.{entry_read}
use Rattle.endpoint.proofs.Types.{types_more, types_tell, types_in}
use Rattle.endpoint.proofs.Endpoint.each_fits.Goals as goal

pub loop-i-preserved : goal.loop-i-preserved
loop-i-preserved c =
    let loop = c.loop-i in
    let e = c.args.self in
    let full : length e.entries ≡ 48 = search rules in
    let read = c.of_bytes-entry.ensures ∙ sym (entry_read e.entries full loop.i) in
    let this = c.fits-fit.ensures ∙ ap (λ (entry : Entry). fits e.flow e.w entry loop.i) read in
    let typed = c.type_in-types.ensures.0 ∙ ap (λ (entry : Entry). entry.message) read in
    let more = ap₂ ◌+◌ loop.invariant.1 typed ∙ sym (types_more (entry_at e.entries) loop.i) in (
      rw add-one (ap₂ ◌&&◌ loop.invariant.0 this),
      more ∙ ap (λ (k : ℕ). types_in (tabulate 0 k (entry_at e.entries))) (sym (add-one loop.i)),
      search rules,
    )

pub returns : goal.returns
returns c =
    let loop = c.loop-i in
    let e = c.args.self in
    let f : ℕ → Entry = entry_at e.entries in
    let all : loop.i ≡ 16 = omega arith in
    let fit = loop.invariant.0 ∙ ap (λ (n : ℕ). every n (λ k. fits e.flow e.w (f k) k)) all in
    let summed = loop.invariant.1 ∙ ap (λ (n : ℕ). types_in (tabulate 0 n f)) all in
    ap₂ (λ (t : Bool) (n : ℕ). t && eqb n (3 * e.w + e.unconfirmed)) fit summed
    ∙ types_tell f e.flow e.w 16 e.unconfirmed (search rules)
