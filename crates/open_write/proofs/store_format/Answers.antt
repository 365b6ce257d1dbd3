-- `open_write::store_format` meets its contract, by whether the format is empty. Assumes nothing.
use Prim.Native.Nat.{ℕ, ◌+◌}
use mathlib.Core.Path.{sym, ap, ◌∙◌}
use mathlib.Core.List.{List}
use lib.ListN.{length}
use native.Mathlib.Nat.{add-zero}
use native.Mathlib.Omega.{arith}
use Rattle.bytes_be.specs.Part.{put_at}
use Rattle.bytes_be.proofs.Parts.{put_nothing}
use Rattle.open_write.proofs.Fields.{format_none, format_some}
use Rattle.open_write.proofs.store_format.Goals as goal

pub store_bytes-requires : goal.store_bytes-requires
store_bytes-requires c = (omega arith, rw (format_some _ c.if-format-ne0.true) at c.requires)

pub returns-then-format-ne0 : goal.returns-then-format-ne0
returns-then-format-ne0 c = rw (← format_some _ c.if-format-ne0.true) at c.store_bytes.ensures

pub returns : goal.returns
returns c =
    let none = format_none _ c.if-format-ne0.false in
    record { stored = sym (ap (put_at _ _) none ∙ put_nothing _ _); behind = sym (ap (λ (l : List ℕ). c.args.at + length l) none ∙ add-zero _) }
