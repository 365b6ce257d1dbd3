-- `utf8::behind_blocks` meets its contract. The invariant of its loop: there is a run up to the place that it has reached. The measure is
-- the number of bytes from there to the end. Assumes nothing.
use Prim.Native.Nat.{◌+◌}
use native.Mathlib.Omega.{arith}
use Rattle.bytes_be.proofs.Tests.{both_true}
use Rattle.utf8.proofs.Runs.{no_run, run_more}
use Rattle.utf8.proofs.behind_blocks.Goals as goal

pub loop-i-init : goal.loop-i-init
loop-i-init c = no_run c.args.s.now c.args.from c.requires

pub returns-then-not-plain : goal.returns-then-not-plain
returns-then-not-plain c = c.loop-i.invariant

pub loop-i-preserved : goal.loop-i-preserved
loop-i-preserved c =
    let s = c.args.s.now in
    let i = c.loop-i.i in
    let three = both_true _ c.plain_at-in-loop-i-3.result (c.if-not-plain.false) in
    let two = both_true _ c.plain_at-in-loop-i-2.result three.0 in
    let one = both_true c.plain_at.result c.plain_at-in-loop-i.result two.0 in
    let first = run_more s c.args.from i 8 (i + 8) (omega arith) (omega arith) (c.plain_at.ensures.0 one.0) c.loop-i.invariant in
    let second = run_more s c.args.from (i + 8) 8 (i + 16) (omega arith) (omega arith) (c.plain_at-in-loop-i.ensures.0 one.1) first in
    let third = run_more s c.args.from (i + 16) 8 (i + 24) (omega arith) (omega arith) (c.plain_at-in-loop-i-2.ensures.0 two.1) second in
    run_more s c.args.from (i + 24) 8 (i + 32) (omega arith) (omega arith) (c.plain_at-in-loop-i-3.ensures.0 three.1) third

pub returns : goal.returns
returns c = c.loop-i.invariant
