-- Every datum is sent by a host that gives its type-data and options, whatever it lends for a body that is missing. Assumes nothing.
use mathlib.Core.Path.{◌≡◌, ◌∙◌, ap, refl}
use Prim.Native.Nat.{ℕ}
use mathlib.Core.List.{List}
use mathlib.Core.Bool.{Bool, cond}
use Rattle.sending.specs.Calls.{Body, Missing, Given, is_missing, DATA}
use Rattle.sending.proofs.Options.{options_say}
use Rattle.fbdp.specs.Blocks.{GivesEveryDatum, LentFor}

body_given : (body : Body) (lent : List ℕ) → LentFor body lent → cond (is_missing body) Missing (Given lent) ≡ body
body_given Missing lent lends = refl
body_given (Given bytes) lent lends = ap Given lends

pub gives_every_datum : GivesEveryDatum
gives_every_datum datum lent lends =
    let say = options_say (DATA datum) in
    let body = ap (λ (none : Bool). cond none Missing (Given lent)) say.1 ∙ body_given datum.body lent lends in
    λ i. record { type-data = datum.type-data; ask = say.0 i; body = body i }
