-- `endpoint::Endpoint::good` meets its contract: the entries are tested where all else fits.
-- Assumes nothing.
use mathlib.Core.Path.{◌∙◌, ◌≡◌, ap, refl, sym}
use Prim.Native.Nat.{◌≤◌}
use mathlib.Core.Bool.{Bool, ◌&&◌, false, true}
use lib.Dec.{leb}
use borrow.Author.Tests.{leb-true}
use Rattle.bytes_be.proofs.Tests.{both_true}
use Rattle.double.specs.Limit.{in_limits}
use Rattle.endpoint.specs.declared.Endpoint.{Endpoint}
use Rattle.endpoint.specs.Record.{capacity, client, count_fits, entries_fit, entry_fits, good, good_flow, in_ranges, server, shut, unconfirmed_fits, wait_fits}
use Rattle.endpoint.proofs.Endpoint.good.Goals as goal

-- all tests but those of the entries
abbrev numbers_fit : Endpoint → Bool
numbers_fit e = in_ranges e && count_fits e && wait_fits e && in_limits e.limit

reordered : (a b c d : Bool) → (a && d) && (b && c) ≡ a && b && c && d
reordered true true true true = refl
reordered true true true false = refl
reordered true true false true = refl
reordered true true false false = refl
reordered true false c true = refl
reordered true false c false = refl
reordered false b c d = refl

good_reordered : (e : Endpoint) → numbers_fit e && (entries_fit e && unconfirmed_fits e) ≡ good e
unfolding good
good_reordered e = reordered (in_ranges e && count_fits e && wait_fits e) (entries_fit e) (unconfirmed_fits e) (in_limits e.limit)

few_awaited : (e : Endpoint) → numbers_fit e ≡ true → e.w ≤ 16
unfolding in_ranges
few_awaited e fit =
    let p = both_true (in_ranges e && count_fits e && wait_fits e) (in_limits e.limit) fit in
    let q = both_true (in_ranges e && count_fits e) (wait_fits e) p.0 in
    let r = both_true (in_ranges e) (count_fits e) q.0 in
    let first : Bool = leb client e.role && leb e.role server && good_flow e.flow && leb e.phase shut in
    leb-true e.w capacity (both_true first (leb e.w capacity) r.0).1

pub entries_fit-requires : goal.entries_fit-requires
entries_fit-requires c = few_awaited c.args.self (sym c.numbers_fit-fit.ensures ∙ c.if-fit.true)

pub returns-then-fit : goal.returns-then-fit
unfolding entries_fit entry_fits unconfirmed_fits
returns-then-fit c =
    let e = c.args.self in
    let fit = sym c.numbers_fit-fit.ensures ∙ c.if-fit.true in
    c.entries_fit.ensures ∙ sym (ap (λ (t : Bool). t && (entries_fit e && unconfirmed_fits e)) fit) ∙ good_reordered e

pub returns : goal.returns
returns c =
    let e = c.args.self in
    let unfit = sym c.numbers_fit-fit.ensures ∙ c.if-fit.false in
    sym (ap (λ (t : Bool). t && (entries_fit e && unconfirmed_fits e)) unfit) ∙ good_reordered e
