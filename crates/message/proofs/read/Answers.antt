-- `message::read` meets its contract: a message whose stages were passed has what stands behind its control frame for its body.
-- Assumes nothing.
use Rattle.std.proofs.Common.{◌∙◌, sym}
use native.Mathlib.Nat.{add-sub_cancel_left}
use Rattle.message.specs.Reading.{reading_of}
use Rattle.message.proofs.Bodies.{read_behind}
use Rattle.message.proofs.read.Goals as goal

pub returns : goal.returns
unfolding reading_of
returns c =
    let contents = sym c.contents_of.ensures ∙ c.in-Ok.is in
    let signed = simp add-sub_cancel_left at (sym c.signed_of.ensures ∙ c.in-Ok-signed_of.is) in
    let versioned = sym c.version_of.ensures ∙ c.in-Ok-version_of.is in
    let known = sym c.try_from.ensures ∙ c.in-Ok-try_from.is in
    simp (contents, signed, versioned, known) (c.tested.ensures ∙ sym (read_behind _ _ contents _ _ _ _ _ c.body.ensures))
