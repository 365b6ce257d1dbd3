-- `endpoint::Endpoint::none_awaited` meets its contract: the loop keeps whether the bytes so far are zero, and 48 zeros are sixteen entries that
-- await nothing.
-- Assumes nothing.
use mathlib.Core.Path.{◌∙◌, ◌≡◌, ap}
use Prim.Native.Nat.{ℕ}
use native.Mathlib.Omega.{arith}
use lib.Dec.{eqb}
use lib.ListN.{get_or, length}
use borrow.Author.Rules.{rules}
use Rattle.endpoint.specs.Record.{every}
use Rattle.endpoint.proofs.Entries.{zeros_none}
use Rattle.endpoint.proofs.Endpoint.none_awaited.Goals as goal

pub returns : goal.returns
returns c =
    let entries = c.args.self.entries in
    let full : length entries ≡ 48 = search rules in
    let all : c.loop-byte.byte-index ≡ 48 = omega arith in
    c.loop-byte.invariant ∙ ap (λ (n : ℕ). every n (λ k. eqb (get_or entries k 0) 0)) all ∙ zeros_none entries full
