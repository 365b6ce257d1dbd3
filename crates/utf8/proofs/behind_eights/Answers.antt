-- `utf8::behind_eights` meets its contract. The invariant of its loop: there is a run up to the place that it has reached. The measure is
-- the number of bytes from there to the end. Assumes nothing.
use Prim.Native.Nat.{◌+◌}
use native.Mathlib.Omega.{arith}
use Rattle.utf8.proofs.Runs.{no_run, run_more}
use Rattle.utf8.proofs.behind_eights.Goals as goal

pub loop-i-init : goal.loop-i-init
loop-i-init c = no_run c.args.s.now c.args.from c.requires

pub returns-then-not-plain_at : goal.returns-then-not-plain_at
returns-then-not-plain_at c = c.loop-i.invariant

pub loop-i-preserved : goal.loop-i-preserved
loop-i-preserved c =
    let i = c.loop-i.i in
    run_more c.args.s.now c.args.from i 8 (i + 8) (omega arith) (omega arith) (c.plain_at.ensures.0 (c.if-not-plain_at.false)) c.loop-i.invariant

pub returns : goal.returns
returns c = c.loop-i.invariant
