-- `endpoint::Endpoint::without_entry` meets its contract: the loop keeps the first bytes equal to those without the entry.
-- Assumes nothing.
use mathlib.Core.Path.{◌∙◌, ◌≡◌, ap, refl}
use Prim.Native.Nat.{◌*◌, ◌≤◌, ℕ}
use mathlib.Core.List.{List}
use native.Mathlib.Omega.{arith}
use lib.ListN.{length, length-set, set}
use borrow.Author.Rules.{rules}
use Rattle.endpoint.proofs.Entries.{begun, begun_first, begun_last, begun_more}
use Rattle.endpoint.proofs.Endpoint.without_entry.Goals as goal

pub loop-at-init : goal.loop-at-init
loop-at-init c =
    let full : length c.args.self.entries ≡ 48 = search rules in
    (full, begun_first c.args.self.entries c.args.i full (search rules))

pub loop-at-preserved : goal.loop-at-preserved
loop-at-preserved c =
    let loop = c.loop-at in
    let a = c.args in
    let full : length a.self.entries ≡ 48 = search rules in
    let behind : 3 * a.i ≤ loop.at = omega arith in
    let more = begun_more a.self.entries a.i full (search rules) loop.at _ behind (omega arith) refl in
    (simp length-set loop.invariant.0, rw loop.invariant.1 more)

pub returns : goal.returns
returns c =
    let loop = c.loop-at in
    let a = c.args in
    let full : length a.self.entries ≡ 48 = search rules in
    let all : loop.at ≡ 45 = omega arith in
    ap (λ (l : List ℕ). set (set (set l 45 0) 46 0) 47 0) (loop.invariant.1 ∙ ap (begun a.self.entries a.i) all)
    ∙ begun_last a.self.entries a.i full (search rules)
