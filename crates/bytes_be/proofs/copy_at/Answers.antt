-- `bytes_be::copy_at` meets its contract. The invariant of its loop: the bytes fit, i of them are copied, and the length is as it was.
-- The measure is the number of bytes still to copy. Assumes nothing.
use mathlib.Core.Path.{◌≡◌, sym, ap, ◌∙◌}
use native.Mathlib.Numerals.{add-one}
use native.Mathlib.Omega.{arith}
use lib.ListN.{length, length-set}
use lib.Seq.{paste, paste-zero, paste-suc}
use borrow.Author.Rules.{rules}
use borrow.Author.Tests.{leb-true, leb-false}
use Rattle.bytes_be.proofs.Parts.{put_paste, put_none}
use Rattle.bytes_be.proofs.copy_at.Goals as goal

pub loop-i-init : goal.loop-i-init
loop-i-init c =
    let a = c.args in
    (search rules, leb-true _ _ (sym c.holds-fits.ensures ∙ c.if-fits.true), search rules, paste-zero a.out.now a.at a.bytes.now)

pub loop-i-preserved : goal.loop-i-preserved
loop-i-preserved c =
    let a = c.args in
    let i = c.loop-i.i in
    let stored = paste-suc a.out.now a.at a.bytes.now i 0 (omega arith) (omega arith) in
    (search rules, c.loop-i.invariant.1, simp length-set c.loop-i.invariant.2, rw (c.loop-i.invariant.3, add-one) stored)

pub shape_of-out : goal.shape_of-out
shape_of-out c = c.loop-i.invariant.2

pub returns-after-loop-i : goal.returns-after-loop-i
returns-after-loop-i c =
    let a = c.args in
    let all : c.loop-i.i ≡ length a.bytes.now = omega arith in
    c.loop-i.invariant.3
    ∙ ap (paste a.out.now a.at a.bytes.now) all
    ∙ put_paste _ _ _ c.loop-i.invariant.1

pub returns-else-fits : goal.returns-else-fits
returns-else-fits c = sym (put_none _ _ _ (leb-false _ _ (sym c.holds-fits.ensures ∙ c.if-fits.false)))
