-- `open_write::format_length` meets its contract, by whether the format is empty. Assumes nothing.
use mathlib.Core.Path.{sym, ap, ◌∙◌}
use lib.ListN.{length}
use native.Mathlib.Omega.{arith}
use Rattle.wire.proofs.Written.{length_bytes_field}
use Rattle.open_write.proofs.Fields.{format_none, format_some}
use Rattle.open_write.proofs.format_length.Goals as goal

pub returns-then-format-eq0 : goal.returns-then-format-eq0
returns-then-format-eq0 c = sym (ap length (format_none _ c.if-format-eq0.true))

pub returns : goal.returns
returns c = c.field_length.ensures ∙ sym (ap length (format_some _ c.if-format-eq0.false) ∙ length_bytes_field 3 _ (omega arith))
