-- For making a record that is lent: any two results which meet the contract, at the same arguments, coincide. Assumes nothing.
use mathlib.Core.Path.{◌≡◌, ap, refl, sym, ◌∙◌}
use Prim.Native.Nat.{ℕ}
use mathlib.Core.Bool.{cond}
use lib.Dec.{eqb}
use Rattle.std.specs.Prelude.{Result, Ok, Err}
use Rattle.bytes_be.proofs.Determined.{coincide}
use Rattle.endpoint.specs.Record.{given_number}
use Rattle.endpoint.specs.declared.BadMaking.{BadMaking}
use Rattle.endpoint.specs.declared.Endpoint.{Endpoint}
use Rattle.lent.specs.Making.{MakeOnLent}

pub make_determined : {e made : Endpoint} {number number' : ℕ} {next next' : Endpoint} → MakeOnLent e made number next →
    MakeOnLent e made number' next' → (number ≡ number') × (next ≡ next')
make_determined one other = (coincide one.answered other.answered, coincide one.changed other.changed)

abbrev answer_in : ℕ → Result (Unit {0}) BadMaking
answer_in number = cond (eqb number 0) (Ok tt) (Err (record {}))

answered : (answer : Result (Unit {0}) BadMaking) → answer_in (given_number answer) ≡ answer
answered (Ok made) = refl
answered (Err why) = refl

-- the number of a making determines its answer
pub number_once : (answer answer' : Result (Unit {0}) BadMaking) → given_number answer ≡ given_number answer' → answer ≡ answer'
number_once answer answer' same = sym (answered answer) ∙ ap answer_in same ∙ answered answer'
