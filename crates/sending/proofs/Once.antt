-- What an answer says of a send determines it: no two refusals have one number. Assumes nothing.
use mathlib.Core.Path.{◌∙◌, ◌≡◌, ap, refl, sym}
use Prim.Native.Nat.{ℕ}
use mathlib.Core.Bool.{cond}
use lib.Dec.{eqb}
use Rattle.std.specs.Prelude.{Result, Ok, Err}
use Rattle.endpoint.specs.declared.Endpoint.{Endpoint}
use Rattle.sending.specs.declared.Refusal.{Refusal}
use Rattle.sending.specs.declared.Refusal.TheVariants.{BadState, NoRoom, Closed, NotAllowed, AboveOffer, Full, TooLarge, BadOffer, BadCode}
use Rattle.sending.specs.declared.Sent.{Sent as Accepted}
use Rattle.sending.specs.Sending.{Sent, sent_as}

-- the refusal that has this number
abbrev refusal_of : ℕ → Refusal
refusal_of number =
    cond (eqb number 1) BadState
    (cond (eqb number 2) NoRoom
    (cond (eqb number 3) Closed
    (cond (eqb number 30) NotAllowed
    (cond (eqb number 31) AboveOffer
    (cond (eqb number 32) Full
    (cond (eqb number 33) TooLarge
    (cond (eqb number 34) BadOffer
    BadCode)))))))

-- the answer of this number, where a send that is accepted is answered with this
abbrev pub answer_of : {T : Type 0} → ℕ → T → Result T Refusal
answer_of number accepted = cond (eqb number 0) (Ok accepted) (Err (refusal_of number))

abbrev answer_in : Sent → Result Accepted Refusal
answer_in sent = answer_of sent.number (record { next = sent.next; written = sent.written })

answered : (e : Endpoint) (answer : Result Accepted Refusal) → answer_in (sent_as e answer) ≡ answer
answered e (Ok sent) = refl
answered e (Err BadState) = refl
answered e (Err NoRoom) = refl
answered e (Err Closed) = refl
answered e (Err NotAllowed) = refl
answered e (Err AboveOffer) = refl
answered e (Err Full) = refl
answered e (Err TooLarge) = refl
answered e (Err BadOffer) = refl
answered e (Err BadCode) = refl

pub answered_once : (e : Endpoint) {answer answer' : Result Accepted Refusal} → sent_as e answer ≡ sent_as e answer' → answer ≡ answer'
answered_once e {answer} {answer'} same = sym (answered e answer) ∙ ap answer_in same ∙ answered e answer'
