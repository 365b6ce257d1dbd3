-- C-12 on bytes: every case comes out as document 02 says, by computing it. Assumes nothing.
use mathlib.Core.Path.{◌≡◌, refl}
use mathlib.Core.Bool.{true}
use Rattle.machine.proofs.Computing.{computing}
use Rattle.marked.specs.Cases.{all_pass}
use Rattle.marked.specs.Bodies.{bodies}

pub bodies_pass : all_pass bodies ≡ true
unfolding computing
bodies_pass = refl
