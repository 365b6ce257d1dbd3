-- `bundle::write_two` meets its contract: what stands in front and the second frame are the bundle of two, or it could not be written.
-- Assumes nothing.
use mathlib.Core.Path.{◌∙◌, sym}
use native.Mathlib.Omega.{arith}
use borrow.Author.Tests.{leb-false, leb-true}
use Rattle.bundle.proofs.Outputs.{no_room_two, too_long_two, wrote_two}
use Rattle.bundle.proofs.write_two.Goals as goal

pub returns-then-length-gt4294967295 : goal.returns-then-length-gt4294967295
returns-then-length-gt4294967295 c =
    let a = c.args in
    too_long_two a.first (omega (arith, c.well_formed)) a.out.now a.second.now c.if-length-gt4294967295.true

pub returns-then-not-room : goal.returns-then-not-room
returns-then-not-room c =
    let a = c.args in
    let none = leb-false _ _ (sym c.holds-room.ensures ∙ c.if-not-room.true) in
    no_room_two a.first (omega (arith, c.well_formed)) a.out.now a.second.now (omega arith) none

pub returns : goal.returns
returns c =
    let a = c.args in
    let room = leb-true _ _ (sym c.holds-room.ensures ∙ c.if-not-room.false) in
    rw (c.copy_at.ensures, c.write_head.ensures)
    (wrote_two a.first (omega (arith, c.well_formed)) a.out.now a.second.now (omega arith) room)
