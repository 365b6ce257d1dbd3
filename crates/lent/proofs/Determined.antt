-- For the sends and receive of a record that is lent: any two results which meet the contract, at the same arguments, coincide. Assumes nothing.
use mathlib.Core.Path.{◌≡◌, ap, ◌∙◌, refl, sym}
use Prim.Native.Nat.{ℕ}
use mathlib.Core.List.{List}
use Rattle.std.specs.Prelude.{Result, Ok, Err}
use Rattle.bytes_be.proofs.Determined.{coincide}
use Rattle.open.specs.Offer.{Offer}
use Rattle.endpoint.specs.declared.Endpoint.{Endpoint}
use Rattle.sending.specs.declared.Refusal.{Refusal}
use Rattle.sending.specs.declared.Refusal.TheVariants.{BadState, NoRoom, Closed, NotAllowed, AboveOffer, Full, TooLarge, BadOffer, BadCode}
use Rattle.sending.specs.Calls.{Call}
use Rattle.sending.proofs.Once.{answer_of}
use Rattle.lent.specs.declared.Outcome.{Outcome}
use Rattle.receiving.proofs.Numbers.{answer_once}
use Rattle.lent.specs.Lent.{Outcome as NumberedOutcome, SendOnLent, outcome_as, ReceiveOnLent, Told, told_as}

pub send_determined : {e : Endpoint} {call : Call} {before : List ℕ} {told told' : Told} {next next' : Endpoint} {after after' : List ℕ} →
    SendOnLent e call before told next after → SendOnLent e call before told' next' after' → (told ≡ told') × (next ≡ next') × (after ≡ after')
send_determined one other = (coincide one.answered other.answered, coincide one.changed other.changed, coincide one.left other.left)

-- the outcome is told by its numbers
outcome_once : {one other : Outcome} → outcome_as one ≡ outcome_as other → one ≡ other
outcome_once {one} {other} same =
    let answers = answer_once (ap (λ (outcome : NumberedOutcome). outcome.answer) same) in
    λ i. record { answer = answers i; reply = (same i).reply }

abbrev answer_in : Told → Result ℕ Refusal
answer_in told = answer_of told.number told.written

answered : (answer : Result ℕ Refusal) → answer_in (told_as answer) ≡ answer
answered (Ok written) = refl
answered (Err BadState) = refl
answered (Err NoRoom) = refl
answered (Err Closed) = refl
answered (Err NotAllowed) = refl
answered (Err AboveOffer) = refl
answered (Err Full) = refl
answered (Err TooLarge) = refl
answered (Err BadOffer) = refl
answered (Err BadCode) = refl

-- what is told of a send determines its answer
pub told_once : (answer answer' : Result ℕ Refusal) → told_as answer ≡ told_as answer' → answer ≡ answer'
told_once answer answer' same = sym (answered answer) ∙ ap answer_in same ∙ answered answer'

pub receive_determined : {e : Endpoint} {s : List ℕ} {pipe : Offer} {before : List ℕ} {outcome outcome' : Outcome} {next next' : Endpoint} {after after' : List ℕ} →
    ReceiveOnLent e s pipe before (outcome_as outcome) next after → ReceiveOnLent e s pipe before (outcome_as outcome') next' after' →
    (outcome ≡ outcome') × (next ≡ next') × (after ≡ after')
receive_determined one other =
    (outcome_once (coincide one.answered other.answered), coincide one.changed other.changed, coincide one.left other.left)
