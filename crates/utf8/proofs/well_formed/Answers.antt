-- `utf8::well_formed` meets its contract. The invariant of its loop: the whole comes to what comes of the bytes from place i on, where a
-- sequence begins. The measure is the number of bytes still to pass. Assumes nothing.
use borrow.Author.Rules.{rules}
use Rattle.utf8.proofs.Runs.{run_passed}
use Rattle.utf8.proofs.Steps.{at_end, at_sequence}
use Rattle.utf8.proofs.well_formed.Goals as goal

pub loop-i-init : goal.loop-i-init
loop-i-init c = (c.behind_run-i.ensures.0.1, run_passed c.args.s.now 0 c.behind_run-i.result c.behind_run-i.ensures.0)

pub loop-i-preserved : goal.loop-i-preserved
loop-i-preserved c = (c.behind_short_run-i.ensures.0.1, at_sequence _ c.args.s.now c.loop-i.i c.loop-i.invariant.1 c.in-Some.next c.in-Some.ensures.2 _ c.behind_short_run-i.ensures.0)

pub returns : goal.returns
returns c = at_end _ c.args.s.now c.loop-i.i c.loop-i.invariant.1 (search rules)
