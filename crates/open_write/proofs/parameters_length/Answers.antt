-- `open_write::parameters_length` meets its contract, by the limit. Assumes nothing.
use mathlib.Core.Path.{sym}
use Rattle.open_write.proofs.Fields.{parameters_none, length_parameters}
use Rattle.open_write.proofs.parameters_length.Goals as goal

pub returns-then-limit-eq50000000 : goal.returns-then-limit-eq50000000
returns-then-limit-eq50000000 c = simp (parameters_none _ c.if-limit-eq50000000.true)

pub returns : goal.returns
returns c = sym (length_parameters _ c.if-limit-eq50000000.false)
