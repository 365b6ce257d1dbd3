-- `bytes_be::number_of` meets its contract. The invariant of its loop: n is the number that the bytes so far say, which so many bytes can hold.
-- Assumes nothing.
use mathlib.Core.Path.{◌≡◌, refl, ap, ◌∙◌}
use Prim.Native.Nat.{ℕ, ◌+◌, ◌*◌}
use native.Mathlib.Nat.{zero-add}
use native.Mathlib.Omega.{arith}
use lib.Dec.{lit<}
use lib.ListN.{length, get_or}
use lib.Seq.{take_all}
use Rattle.bytes_be.specs.Number.{from_bytes, from_bytes_behind}
use Rattle.bytes_be.proofs.Numbers.{number_more, more_below, room_for_one}
use Rattle.bytes_be.proofs.number_of.Goals as goal

pub loop-byte-init : goal.loop-byte-init
unfolding from_bytes from_bytes_behind
loop-byte-init c = (refl, lit< tt)

pub overflow_mul-n : goal.overflow_mul-n
overflow_mul-n c = omega (arith, room_for_one {i = c.loop-byte.byte-index} {n = c.loop-byte.n} (omega (arith, c.loop-byte-test.true, c.requires)) c.loop-byte.invariant.1)

pub overflow_add-n : goal.overflow_add-n
overflow_add-n c =
    let small = room_for_one {i = c.loop-byte.byte-index} {n = c.loop-byte.n} (omega (arith, c.loop-byte-test.true, c.requires)) c.loop-byte.invariant.1 in
    omega (arith, small, c.from.ensures, c.type_inv.bytes c.loop-byte.byte-index)

pub loop-byte-preserved : goal.loop-byte-preserved
loop-byte-preserved c =
    let i = c.loop-byte.byte-index in
    let here : 0 + i ≡ i = zero-add i in
    let next : c.from.result ≡ get_or c.args.bytes.now (0 + i) 0 = rw here c.from.ensures in (
      ap (λ (b : ℕ). c.loop-byte.n * 256 + b) next ∙ number_more c.args.bytes.now 0 i c.loop-byte.n (rw here c.loop-byte-test.true) c.loop-byte.invariant.0,
      more_below i c.loop-byte.invariant.1 (omega (arith, c.from.ensures, c.type_inv.bytes i)),
    )

pub returns : goal.returns
returns c =
    let all : c.loop-byte.byte-index ≡ length c.args.bytes.now = omega (arith, c.loop-byte-test.false, c.loop-byte.auto.byte-index-end) in
    (c.loop-byte.invariant.0 ∙ ap from_bytes (take_all c.loop-byte.byte-index c.args.bytes.now (omega arith)), rw all at c.loop-byte.invariant.1)
