-- For the sends and receive of a record: any two results which meet the contract, at the same arguments, coincide. Assumes nothing.
use mathlib.Core.Path.{◌≡◌}
use Prim.Native.Nat.{ℕ}
use mathlib.Core.List.{List}
use Rattle.std.specs.Prelude.{Result}
use Rattle.bytes_be.proofs.Determined.{coincide}
use Rattle.open.specs.Offer.{Offer}
use Rattle.endpoint.specs.declared.Endpoint.{Endpoint}
use Rattle.receiving.specs.declared.Received.{Received}
use Rattle.receiving.specs.Numbers.{received_as}
use Rattle.receiving.specs.Receiving.{ReceiveAnswer}
use Rattle.receiving.proofs.Numbers.{received_once}
use Rattle.sending.specs.declared.Refusal.{Refusal}
use Rattle.sending.specs.declared.Sent.{Sent}
use Rattle.sending.specs.Calls.{Call}
use Rattle.sending.specs.Sending.{SendAnswer}
use Rattle.sending.proofs.Once.{answered_once}

pub sent_determined : (e : Endpoint) (call : Call) {before : List ℕ} {sent sent' : Result Sent Refusal} {after after' : List ℕ} →
    SendAnswer e call before sent after → SendAnswer e call before sent' after' → (sent ≡ sent') × (after ≡ after')
sent_determined e call one other = (answered_once e (coincide one.answered other.answered), coincide one.left other.left)

pub received_determined : {e : Endpoint} {s : List ℕ} {pipe : Offer} {before : List ℕ} {received received' : Received} {after after' : List ℕ} →
    ReceiveAnswer e s pipe before (received_as received) after → ReceiveAnswer e s pipe before (received_as received') after' →
    (received ≡ received') × (after ≡ after')
received_determined one other = (received_once (coincide one.answered other.answered), coincide one.left other.left)
