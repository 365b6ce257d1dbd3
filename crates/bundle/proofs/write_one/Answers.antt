-- `bundle::write_one` meets its contract: its two copies leave the bundle of one frame, or there was no room for it.
-- Assumes nothing.
use native.Mathlib.Omega.{arith}
use Rattle.bundle.proofs.Outputs.{wrote_one, no_room_one}
use Rattle.bundle.proofs.write_one.Goals as goal

pub returns-then-out-lt14 : goal.returns-then-out-lt14
returns-then-out-lt14 c =
    let a = c.args in
    no_room_one a.frame (omega (arith, c.well_formed)) a.out.now c.if-out-lt14.true

pub returns : goal.returns
returns c =
    let a = c.args in
    rw (c.copy_at-2.ensures, c.copy_at.ensures)
    (wrote_one a.frame (omega (arith, c.well_formed)) a.out.now c.if-out-lt14.false)
