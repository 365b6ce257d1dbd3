-- `utf8::behind_bytes` meets its contract. The invariant of its loop: there is a run up to the place that it has reached. The measure is the
-- number of bytes from there to the end. Assumes nothing.
use native.Mathlib.Omega.{arith}
use borrow.Author.Rules.{rules}
use Rattle.utf8.proofs.Runs.{no_run, run_one}
use Rattle.utf8.proofs.behind_bytes.Goals as goal

pub loop-i-init : goal.loop-i-init
loop-i-init c = no_run c.args.s.now c.args.from c.requires

pub returns-then-s-i-ge128 : goal.returns-then-s-i-ge128
returns-then-s-i-ge128 c = (c.loop-i.invariant, λ less. omega (arith, c.if-s-i-ge128.true))

pub loop-i-preserved : goal.loop-i-preserved
loop-i-preserved c = run_one c.args.s.now c.args.from c.loop-i.i (search rules) (search rules) c.loop-i.invariant

pub returns : goal.returns
returns c = (c.loop-i.invariant, λ less. absurd (omega arith))
