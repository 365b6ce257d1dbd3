-- `probe::probe_write` meets its contract: a known type is written, with its body or alone, and nothing of another.
-- Assumes nothing.
use mathlib.Core.Path.{◌≡◌, refl, sym, ◌∙◌}
use Rattle.control.specs.Frame.{known_type_of}
use Rattle.std.specs.Prelude.{Ok}
use Rattle.probe.proofs.probe_write.Goals as goal

pub returns-in_default : goal.returns-in_default
returns-in_default c = rw (sym c.try_from.ensures ∙ c.in_default.is) (refl, refl)

pub returns-then-with_body : goal.returns-then-with_body
returns-then-with_body c =
    let is_known : known_type_of c.args.number ≡ Ok c.in-Ok.message = sym c.try_from.ensures ∙ c.in-Ok.is in
    rw (is_known, c.if-with_body.true, sym c.bytes_of-frame.ensures) c.write_two.ensures

pub returns : goal.returns
returns c =
    let is_known : known_type_of c.args.number ≡ Ok c.in-Ok.message = sym c.try_from.ensures ∙ c.in-Ok.is in
    rw (is_known, c.if-with_body.false, sym c.bytes_of-frame.ensures) c.write_one.ensures
