-- `endpoint::entries_in` meets its contract: the loop keeps the first i bytes equal to those in the block.
-- Assumes nothing.
use mathlib.Core.Path.{◌∙◌, ◌≡◌, ap}
use Prim.Native.Nat.{ℕ}
use mathlib.Core.List.{◌++◌, append-nil}
use native.Mathlib.Omega.{arith}
use lib.ListN.{drop, length-set}
use borrow.Author.Rules.{rules}
use Rattle.bytes_be.specs.Part.{part}
use Rattle.bytes_be.proofs.Filled.{copy_more}
use Rattle.endpoint.specs.Record.{no_entries}
use Rattle.endpoint.proofs.entries_in.Goals as goal

pub loop-i-preserved : goal.loop-i-preserved
loop-i-preserved c =
    let loop = c.loop-i in
    let block = c.args.block.now in
    let more = copy_more no_entries block 16 loop.i 0 (search rules) (omega arith) in
    (loop.invariant.0, simp length-set loop.invariant.1, rw loop.invariant.2 more)

pub returns : goal.returns
returns c =
    let loop = c.loop-i in
    let block = c.args.block.now in
    let all : loop.i ≡ 48 = omega arith in
    loop.invariant.2 ∙ ap (λ (k : ℕ). part block 16 k ++ drop k no_entries) all ∙ append-nil (part block 16 48)
