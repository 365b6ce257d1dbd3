-- For the functions of a reader: any two results which meet the contract, at the same arguments, coincide. Assumes nothing.
use mathlib.Core.Path.{◌≡◌}
use mathlib.Core.List.{List}
use Prim.Native.Nat.{ℕ}
use Rattle.std.specs.Borrow.{Bor}
use Rattle.bytes_be.proofs.Determined.{coincide}
use Rattle.bundle.specs.declared.BadBundle.{BadBundle}
use Rattle.bytes_be.specs.declared.Place.{Place}
use Rattle.std.specs.Prelude.{Option, Result}
use Rattle.frames.specs.declared.Reader.{Reader}
use Rattle.frames.specs.Frames.{begun_over, NextAnswer}

pub over_determined : (bundle : Bor (List ℕ)) {reader reader' : Reader} → reader ≡ begun_over bundle → reader' ≡ begun_over bundle → reader ≡ reader'
over_determined bundle one other = coincide one other

pub next_determined : {before : Reader} {frame frame' : Result (Option Place) BadBundle} {after after' : Reader} → NextAnswer before frame after →
    NextAnswer before frame' after' → (frame ≡ frame') × (after ≡ after')
next_determined one other = (coincide one.handed other.handed, coincide one.left other.left)
