-- The laws of a record that is lent: what holds of a record by value holds of the record lent. Assumes nothing.
use mathlib.Core.Path.{ap}
use Prim.Native.Nat.{ℕ}
use mathlib.Core.List.{List}
use Rattle.std.specs.Prelude.{Result}
use Rattle.open.specs.Offer.{Offer}
use Rattle.endpoint.specs.declared.Endpoint.{Endpoint}
use Rattle.receiving.specs.Numbers.{Received}
use Rattle.receiving.specs.Receiving.{ReceiveAnswer}
use Rattle.sending.specs.declared.Refusal.{Refusal}
use Rattle.sending.specs.declared.Sent.{Sent as Accepted}
use Rattle.sending.specs.Calls.{Call}
use Rattle.sending.specs.Sending.{Sent, SendAnswer, sent_as}
use Rattle.lent.specs.Lent.{told_of, outcome_of, SendOnLent, ReceiveOnLent}

pub send_said : (e : Endpoint) (call : Call) (before : List ℕ) {sent : Result Accepted Refusal} {after : List ℕ} → SendAnswer e call before sent after →
    SendOnLent e call before (told_of (sent_as e sent)) (sent_as e sent).next after
send_said e call before said =
    record { answered = ap told_of said.answered; changed = ap (λ (sent : Sent). sent.next) said.answered; left = said.left }

pub receive_said : (e : Endpoint) (s : List ℕ) (pipe : Offer) (before : List ℕ) {received : Received} {after : List ℕ} → ReceiveAnswer e s pipe before received after →
    ReceiveOnLent e s pipe before (outcome_of received) received.next after
receive_said e s pipe before said =
    record {
      answered = ap outcome_of said.answered;
      changed = ap (λ (received : Received). received.next) said.answered;
      left = said.left;
    }
