-- What a refusal does: a receive stays, closes or hears, and a refused send stays. Assumes nothing.
use mathlib.Core.Path.{◌≡◌, refl}
use mathlib.Core.Bool.{Bool, true, false, cond}
use lib.Dec.{eqb}
use Rattle.std.specs.Prelude.{Result}
use Rattle.table.specs.declared.Refusal.{Refusal}
use Rattle.table.specs.declared.Step.{Step}
use Rattle.table.specs.Table.{moved}
use Rattle.receiving.specs.Numbers.{Received}
use Rattle.receiving.specs.Hearing.{accepted}
use Rattle.receiving.specs.Refusing.{refused, unchanged}
use Rattle.sending.specs.Calls.{outgoing}
use Rattle.sending.specs.Sending.{Sent, asked_by, number_for, send_row, sent_by, unsent}
use Rattle.machine.specs.Refusals.{DoesAs, ReceiveDoes, RefusedSendStays}
use Rattle.machine.proofs.Stages.{received_holds}

pub receive_does : ReceiveDoes
unfolding accepted unchanged refused
receive_does e s pipe room =
    received_holds (λ (received : Received). DoesAs e s received received.answer) e s pipe (λ number. refl) (λ number has_code. record { coded = has_code; is = refl })
    (λ m content passed. record { message = m; content = content; read = passed.read; is = refl }) room

pub refused_send_stays : RefusedSendStays
unfolding sent_by
refused_send_stays e call room =
    go (eqb (number_for e (outgoing e call) row room) 0) refl
  where
    row : Result Step Refusal
    row = send_row e (outgoing e call)

    accepted_sent : Sent
    accepted_sent = record { number = 0; next = asked_by (moved e row) (outgoing e call); written = (outgoing e call).length }

    go : (t : Bool) → eqb (number_for e (outgoing e call) row room) 0 ≡ t
        → ((cond t accepted_sent (unsent e (number_for e (outgoing e call) row room))).number ≡ 0 → ⊥)
        → cond t accepted_sent (unsent e (number_for e (outgoing e call) row room)) ≡ unsent e (cond t accepted_sent (unsent e (number_for e (outgoing e call) row room))).number
    go true none refusal = absurd (refusal refl)
    go false some refusal = refl
