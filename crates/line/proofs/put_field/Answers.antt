-- `line::put_field` meets its contract: the digits are the number in decimal, and follow the label.
-- Assumes nothing.
use mathlib.Core.Path.{ap, ◌∙◌}
use native.Mathlib.Omega.{arith}
use lib.ListN.{length}
use Rattle.line.specs.Text.{decimal}
use Rattle.line.proofs.Digits.{decimal_short, decimal_is}
use Rattle.line.proofs.Puts.{put_more}
use Rattle.line.proofs.put_field.Goals as goal

pub put-requires : goal.put-requires
unfolding decimal
put-requires c =
    let said = c.decimal-count in
    let number = c.args.number in
    let spelled = said.ensures.digits ∙ decimal_is number said.result c.ranges.number.fits said.ensures.len in
    omega (arith, ap length spelled, decimal_short 20 number, c.put-next.ensures.behind)

pub returns : goal.returns
unfolding decimal
returns c =
    let said = c.decimal-count in
    let number = c.args.number in
    let spelled = said.ensures.digits ∙ decimal_is number said.result c.ranges.number.fits said.ensures.len in
    let label = c.put-next.ensures in
    let digits = rw spelled at c.put.ensures in
    (put_more label digits, omega (arith, label.behind, digits.behind, decimal_short 20 number))
