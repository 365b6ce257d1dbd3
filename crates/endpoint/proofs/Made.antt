-- A making whose number is 0 makes the record that it was asked for, of a flow and a limit that 34 does not refuse. Assumes nothing.
use mathlib.Core.Path.{◌≡◌, refl}
use mathlib.Core.Bool.{Bool, ◌&&◌, cond, false, true}
use native.Mathlib.Omega.{arith}
use Rattle.std.specs.Prelude.{Result, Ok, Err}
use Rattle.double.specs.Limit.{in_limits}
use Rattle.endpoint.specs.declared.BadMaking.{BadMaking}
use Rattle.endpoint.specs.declared.Endpoint.{Endpoint}
use Rattle.endpoint.specs.Record.{given_number, given_of, good_flow, made_of}

pub made_accepted : (made : Endpoint) → given_number (made_of made) ≡ 0 → (given_of made.flow made.limit ≡ Ok tt) × (made_of made ≡ Ok made)
unfolding given_of made_of
made_accepted made accepts = go (good_flow made.flow && in_limits made.limit) accepts
  where
    go : (t : Bool) → given_number (cond {A = Result Endpoint BadMaking} t (Ok made) (Err (record {}))) ≡ 0
        → (cond {A = Result (Unit {0}) BadMaking} t (Ok tt) (Err (record {})) ≡ Ok tt)
        × (cond {A = Result Endpoint BadMaking} t (Ok made) (Err (record {})) ≡ Ok made)
    go true accepts = (refl, refl)
    go false accepts = absurd (omega (arith, accepts))
