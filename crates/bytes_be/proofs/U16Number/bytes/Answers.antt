-- `bytes` of `bytes_be::Number` at u16 meets its contract: the standard library's bytes are those of `to_bytes`. Assumes nothing.
use mathlib.Core.Path.{◌∙◌}
use Rattle.bytes_be.proofs.Numbers.{high_first}
use Rattle.bytes_be.proofs.U16Number.bytes.Goals as goal

pub returns : goal.returns
returns c = c.to_be_bytes.ensures ∙ high_first 2 c.args.self
