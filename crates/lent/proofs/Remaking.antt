-- The laws of making a record that is lent. Assumes nothing.
use mathlib.Core.Path.{◌≡◌, ◌∙◌, ap, refl}
use Prim.Native.Nat.{ℕ}
use mathlib.Core.Bool.{Bool, true, false, cond, ◌&&◌}
use native.Mathlib.Omega.{arith}
use Rattle.std.specs.Prelude.{Result, Ok, Err}
use Rattle.double.specs.Limit.{in_limits}
use Rattle.endpoint.specs.declared.BadMaking.{BadMaking}
use Rattle.endpoint.specs.declared.Endpoint.{Endpoint}
use Rattle.endpoint.specs.Record.{good_flow, given_number, made_of, made_or}
use Rattle.lent.specs.Making.{MakeOnLent}

-- where nothing is made, it is the record as it was
pub made_again : (e fresh : Endpoint)
    → (given_number (made_of fresh) ≡ 0 → made_or e (made_of fresh) ≡ fresh) × ((given_number (made_of fresh) ≡ 0 → ⊥) → made_or e (made_of fresh) ≡ e)
unfolding made_of
made_again e fresh = go (good_flow fresh.flow && in_limits fresh.limit)
  where
    made_by : Bool → Result Endpoint BadMaking
    made_by good = cond good (Ok fresh) (Err record {})

    go : (t : Bool) → (given_number (made_by t) ≡ 0 → made_or e (made_by t) ≡ fresh) × ((given_number (made_by t) ≡ 0 → ⊥) → made_or e (made_by t) ≡ e)
    go true = ((λ none. refl), (λ some. absurd (some refl)))
    go false = ((λ none. absurd (omega arith)), (λ some. refl))

-- what holds of making by value holds of making a record that is lent
pub make_said : (e fresh : Endpoint) {made : Result Endpoint BadMaking} {number : ℕ} {next : Endpoint} → made ≡ made_of fresh
    → number ≡ given_number made → next ≡ made_or e made → MakeOnLent e fresh number next
make_said e fresh said numbered kept = record { answered = numbered ∙ ap given_number said; changed = kept ∙ ap (made_or e) said }
