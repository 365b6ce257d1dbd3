-- "Proved together as one tabulated fact over the rules: K1..K12." Every case comes out as document 01 says, by computing it.
-- Assumes nothing.
use mathlib.Core.Path.{◌≡◌, refl}
use mathlib.Core.Bool.{true}
use Rattle.machine.proofs.Computing.{computing}
use Rattle.marked.specs.Cases.{marked, all_pass}

pub marked_pass : all_pass marked ≡ true
unfolding computing
marked_pass = refl
