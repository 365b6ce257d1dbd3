-- For a text that is put in a buffer: any two results which meet the contract, at the same arguments, coincide. Assumes nothing.
use mathlib.Core.Path.{◌≡◌}
use Prim.Native.Nat.{ℕ}
use mathlib.Core.List.{List}
use Rattle.bytes_be.proofs.Determined.{coincide}
use Rattle.line.specs.Report.{Put}

pub put_determined : {text before : List ℕ} {at next next' : ℕ} {after after' : List ℕ} → Put text before at next after → Put text before at next' after' →
    (next ≡ next') × (after ≡ after')
put_determined one other = (coincide one.behind other.behind, coincide one.left other.left)
