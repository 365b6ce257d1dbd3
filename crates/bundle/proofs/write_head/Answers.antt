-- `bundle::write_head` meets its contract: its three writes leave what stands in front of the second frame, or there was no room.
-- Assumes nothing.
use mathlib.Core.Path.{◌≡◌, sym}
use Prim.Native.Nat.{◌<◌}
use native.Mathlib.Omega.{arith}
use lib.ListN.{length}
use Rattle.bytes_be.proofs.Parts.{put_none}
use Rattle.bundle.specs.Writing.{head_of}
use Rattle.bundle.proofs.Outputs.{length_front, put_head}
use Rattle.bundle.proofs.write_head.Goals as goal

pub returns-then-room : goal.returns-then-room
returns-then-room c =
    let a = c.args in
    rw (c.copy_at-then-room.ensures, c.store.ensures, c.copy_at.ensures)
    (put_head a.first (omega (arith, c.well_formed)) a.out.now a.size c.if-room.true)

pub returns-else-room : goal.returns-else-room
returns-else-room c =
    let a = c.args in
    let eight : length a.first ≡ 8 = omega (arith, c.well_formed) in
    let short : length a.out.now < 18 = c.if-room.false in
    sym (put_none a.out.now 0 (head_of a.first a.size) (omega (arith, length_front a.first eight a.out.now a.size)))
