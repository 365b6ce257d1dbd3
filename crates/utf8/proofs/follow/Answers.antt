-- `utf8::follow` meets its contract. The invariant of its loop: the whole comes to whether those that are left stand behind the bytes so far.
-- Assumes nothing.
use mathlib.Core.Path.{◌≡◌, refl, sym}
use Prim.Native.Nat.{◌+◌, ◌-◌, ◌≤◌}
use native.Mathlib.Omega.{arith}
use native.Mathlib.Nat.{add-zero}
use lib.ListN.{length}
use Rattle.bytes_be.proofs.Parts.{length_part, get_d_part}
use Rattle.utf8.proofs.Sequences.{few_left, none_left, one_stands, one_fails}
use Rattle.utf8.proofs.follow.Goals as goal

pub returns-then-s-at : goal.returns-then-s-at
returns-then-s-at c =
    let a = c.args in
    sym (few_left a.s.now a.at a.due.count a.due.from a.due.to (omega (arith, c.if-s-at.true, c.from-count.ensures)))

pub loop-byte-init : goal.loop-byte-init
loop-byte-init c =
    let a = c.args in
    let here : a.at + 0 ≡ a.at = add-zero a.at in
    let all : a.due.count - 0 ≡ a.due.count = omega arith in
    rw (here, all) refl

pub returns-then-not-inside : goal.returns-then-not-inside
returns-then-not-inside c =
    let a = c.args in
    let l = c.loop-byte in
    let size = length_part a.s.now a.at (a.at + c.from-count.result - a.at) (omega (arith, c.if-s-at.false, c.requires)) in
    let byte = get_d_part a.s.now a.at (a.at + c.from-count.result - a.at) l.byte-index 0 (omega (arith, size, c.loop-byte-test.true)) in
    let left : a.due.count - l.byte-index ≡ 0 → ⊥ = λ none. omega (arith, none, size, c.loop-byte-test.true, c.from-count.ensures) in
    let inside : a.at + l.byte-index + (a.due.count - l.byte-index) ≤ length a.s.now = omega (arith, size, c.loop-byte-test.true, c.from-count.ensures, c.if-s-at.false, c.requires) in
    one_fails _ a.s.now (a.due.count - l.byte-index) l.from l.to (a.at + l.byte-index) l.invariant left inside (rw byte at c.if-not-inside.true)

pub loop-byte-preserved : goal.loop-byte-preserved
loop-byte-preserved c =
    let a = c.args in
    let l = c.loop-byte in
    let size = length_part a.s.now a.at (a.at + c.from-count.result - a.at) (omega (arith, c.if-s-at.false, c.requires)) in
    let byte = get_d_part a.s.now a.at (a.at + c.from-count.result - a.at) l.byte-index 0 (omega (arith, size, c.loop-byte-test.true)) in
    let left : a.due.count - l.byte-index ≡ 0 → ⊥ = λ none. omega (arith, none, size, c.loop-byte-test.true, c.from-count.ensures) in
    let inside : a.at + l.byte-index + (a.due.count - l.byte-index) ≤ length a.s.now = omega (arith, size, c.loop-byte-test.true, c.from-count.ensures, c.if-s-at.false, c.requires) in
    let less : a.due.count - l.byte-index - 1 ≡ a.due.count - (l.byte-index + 1) = omega arith in
    let next : a.at + l.byte-index + 1 ≡ a.at + (l.byte-index + 1) = omega arith in
    rw (less, next) at (one_stands _ a.s.now (a.due.count - l.byte-index) l.from l.to (a.at + l.byte-index) l.invariant left inside (rw byte at c.if-not-inside.false))

pub returns : goal.returns
returns c =
    let a = c.args in
    let l = c.loop-byte in
    let size = length_part a.s.now a.at (a.at + c.from-count.result - a.at) (omega (arith, c.if-s-at.false, c.requires)) in
    none_left _ a.s.now (a.due.count - l.byte-index) l.from l.to (a.at + l.byte-index) l.invariant (omega (arith, size, c.loop-byte-test.false, c.from-count.ensures))
