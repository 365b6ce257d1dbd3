-- `double::bytes_of` meets its contract: 32 bits are exact in a double and no NaN, and its eight bytes are turned round whole.
-- Assumes nothing.
use Rattle.std.proofs.Common.{reverse, ap, ◌∙◌, rules}
use Rattle.double.specs.Double.{bytes_of}
use Rattle.double.proofs.Patterns.{whole_no_nan}
use Rattle.double.proofs.bytes_of.Goals as goal

pub float_to_bits-bits : goal.float_to_bits-bits
float_to_bits-bits c = whole_no_nan _ (search rules)

pub returns : goal.returns
unfolding bytes_of
returns c = c.reverse.ensures.after ∙ ap reverse c.bytes-bytes.ensures
