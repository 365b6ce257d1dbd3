-- `utf8::behind_run` meets its contract: three runs, one right behind the other, are one. Assumes nothing.
use Rattle.utf8.proofs.Runs.{run_then}
use Rattle.utf8.proofs.behind_run.Goals as goal

pub returns : goal.returns
returns c =
    let s = c.args.s.now in
    (run_then s _ _ _ c.behind_blocks-blocks.ensures (run_then s _ _ _ c.behind_eights-eights.ensures c.behind_bytes.ensures.0), c.behind_bytes.ensures.1)
