-- For the writers of a bundle: any two results which meet the contract, at the same arguments, coincide. Assumes nothing.
use mathlib.Core.Path.{◌≡◌}
use Prim.Native.Nat.{ℕ}
use mathlib.Core.List.{List}
use Rattle.bytes_be.proofs.Determined.{coincide}
use Rattle.bundle.specs.Writing.{Written}

pub written_determined : {frames : List (List ℕ)} {before : List ℕ} {count count' : ℕ} {after after' : List ℕ} →
    Written frames before count after → Written frames before count' after' → (count ≡ count') × (after ≡ after')
written_determined one other = (coincide one.answered other.answered, coincide one.left other.left)
