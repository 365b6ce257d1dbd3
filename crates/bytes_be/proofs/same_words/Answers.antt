-- `bytes_be::same_words` meets its contract. The invariant of its loop: the bytes in front of the place that it has reached are the same.
-- Assumes nothing.
use Prim.Native.Nat.{ℕ, ◌+◌, ◌-◌}
use mathlib.Core.Path.{refl, sym, ap, ◌∙◌}
use mathlib.Core.List.{List, reverse}
use native.Mathlib.Omega.{arith}
use lib.ListN.{length}
use Rattle.bytes_be.specs.Part.{part}
use Rattle.bytes_be.specs.Number.{from_bytes}
use Rattle.bytes_be.proofs.Numbers.{Bytes}
use Rattle.bytes_be.proofs.Sameness.{not_same}
use Rattle.bytes_be.proofs.Words.{same_further, same_last}
use Rattle.bytes_be.proofs.same_words.Goals.{else-loop-at-test, then-loop-at-test+else-word+else-last-at-gt8}
use Rattle.bytes_be.proofs.same_words.Goals as goal

pub loop-at-init : goal.loop-at-init
loop-at-init c = (omega arith, refl)

pub returns-then-word : goal.returns-then-word
returns-then-word c =
    let a = c.args in
    let says : List ℕ → ℕ = λ l. from_bytes (reverse (part l c.loop-at.at 8)) in
    not_same a.a.now a.b.now (λ equal. c.if-word.true (c.word.ensures ∙ ap says equal ∙ sym c.word-in-loop-at.ensures))

pub loop-at-preserved : goal.loop-at-preserved
loop-at-preserved c =
    let a_bytes : Bytes c.args.a.now = λ i. (c.type_inv.a i).fits in
    let b_bytes : Bytes c.args.b.now = λ i. (c.type_inv.b i).fits in
    let alike = sym c.word.ensures ∙ c.if-word.false ∙ c.word-in-loop-at.ensures in
    (omega arith, same_further c.args.a.now c.args.b.now a_bytes b_bytes c.requires.0 c.loop-at.at 8 c.loop-at.invariant.1 (omega arith) alike)

pub returns : goal.returns
returns c =
    let a = c.args.a.now in
    let b = c.args.b.now in
    let a_bytes : Bytes a = λ i. (c.type_inv.a i).fits in
    let b_bytes : Bytes b = λ i. (c.type_inv.b i).fits in
    let at = c.loop-at.at in
    let last = length a - 8 in
    let front = c.loop-at.invariant.1 in
    elim c.loop-at-test.branch [
      | else-loop-at-test w ↦ same_last a b a_bytes b_bytes c.requires.0 at 8 front last _ _ (omega arith) (omega arith) c.word-2.ensures c.word-3.ensures
      | then-loop-at-test+else-word+else-last-at-gt8 w ↦
          let alike = sym w.word.ensures ∙ w.if-word.false ∙ w.word-in-loop-at.ensures in
          let further = same_further a b a_bytes b_bytes c.requires.0 at 8 front (omega arith) alike in
          same_last a b a_bytes b_bytes c.requires.0 (at + 8) 8 further last _ _ (omega arith) (omega arith) c.word-2.ensures c.word-3.ensures
    ]
