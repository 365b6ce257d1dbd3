-- Slips about the limit: of the body nothing is known but its length, so that none of this size is computed. Assumes nothing.
use mathlib.Core.Path.{◌≡◌, ◌∙◌, ap, refl, subst}
use mathlib.Core.List.{List, [], ◌∷◌, append-nil}
use mathlib.Core.Bool.{false}
use Prim.Native.Nat.{ℕ, ◌-◌}
use native.Mathlib.Omega.{arith}
use lib.ListN.{length, length-replicate, replicate}
use lib.Ieee.{div, lt, mul}
use Rattle.control.specs.declared.MessageType.TheVariants.{Data}
use Rattle.control.specs.Frame.{type_of}
use Rattle.open.specs.Offer.{no_offer}
use Rattle.endpoint.specs.declared.Endpoint.{Endpoint}
use Rattle.endpoint.specs.Record.{consumer, producer, batch, idle, fresh_client, fresh_server, at_phase, limited}
use Rattle.sending.specs.Calls.{Given, READY, written}
use Rattle.machine.specs.Bodies.{body_heard}
use Rattle.machine.specs.Programs.{Queued, Told, SendOutcome, ReceiveOutcome, Program, told_of, tables}
use Rattle.machine.specs.Round.{MayHear}
use Rattle.machine.proofs.Computing.{computing}
use Rattle.machine.proofs.Round.{heard_as_sent}
use Rattle.session.specs.World.{Client, Server, Going, no_history, Brought, after_call, after_message, Side, World, step, run}
use Rattle.session.specs.Demand.{DemandOf, as_records, Holds}
use Rattle.slips.specs.Slips.{slipping, refusal_lowered, lowering_on_refusal, LoweringOnRefusalFails}
use Rattle.slips.specs.Slips.{measured, comparing_megabytes, ComparingMegabytesFails}
use Rattle.slips.proofs.Runs.{agreeing, at_rest, at_the_end, calls, limit, report, room, running, start}

-- ---- a batch of 1 is agreed

abbrev sender : Endpoint
sender = at_phase (fresh_client producer limit) batch 1

abbrev hearer : Endpoint
hearer = at_phase (limited (fresh_server consumer) limit) batch 1

abbrev offered : Brought
offered = record { carried = []; readies = 1 ∷ []; confirmed = [] }

-- each end sent a READY and heard one
abbrev in_batch : Endpoint → Side Endpoint
in_batch e = record { self = e; queue = []; past = after_message Server (after_call Server no_history (READY 1)) offered [] Going }

abbrev agreed : World Endpoint
agreed = record { client = in_batch sender; server = in_batch hearer }

-- this comes of every call
abbrev giving : SendOutcome Endpoint → Program Endpoint ℕ
giving done = slipping (λ e call out. done) tables.receive

-- demand 3 after the client's DATA, where it is known what comes of that
after_data : (p : Program Endpoint ℕ) → DemandOf p as_records → run p start (agreeing 1 1 []) ≡ agreed
    → (body : List ℕ) (done : SendOutcome Endpoint) → p.send sender (report false (Given body)) room ≡ done
    → Holds p as_records (step (giving done) agreed (calls Client (report false (Given body))))
unfolding run step
after_data p demand agrees body done gives =
    let sending = calls Client (report false (Given body)) in
    subst (Holds p as_records)
    (ap (λ (w : World Endpoint). step p w sending) agrees ∙ ap (λ (x : SendOutcome Endpoint). step (giving x) agreed sending) gives)
    (at_the_end p demand (agreeing 1 1 (sending ∷ [])) (λ w. omega arith))

-- there is a body of every length
some_body : {A : Type 0} (size : ℕ) → ((body : List ℕ) → length body ≡ size → A) → A
some_body size by = by (replicate size 0) (length-replicate size 0)

-- ---- above the limit

large_refused : (body : List ℕ) → length body ≡ limit
    → tables.send sender (report false (Given body)) room ≡ record { number = 33; bytes = written sender (report false (Given body)); next = sender }
unfolding computing
large_refused body long = rw long refl

-- the client is idle and waits for an offer, and the server is in the batch and may make none
lowering_fails : (body : List ℕ) → length body ≡ limit → LoweringOnRefusalFails
unfolding running
lowering_fails body long demand =
    let holds = after_data lowering_on_refusal demand refl body _ (ap (refusal_lowered sender) (large_refused body long)) in
    absurd (omega (arith, ((holds.may_send (at_rest _ refl refl refl refl)).accepted room (omega arith)).0))

pub lowering_on_refusal_fails : LoweringOnRefusalFails
lowering_on_refusal_fails = some_body limit lowering_fails

-- ---- at the limit

module _ (body : List ℕ) (long : length body ≡ limit - 8) where
  abbrev message : Queued
  message = record { bytes = written sender (report false (Given body)); how = 0 }

  abbrev told : Told
  told = record { message = type_of Data; flags = 0; type-data = 0; body = Given body }

  -- the tables send it and hear it

  full_sent : tables.send sender (report false (Given body)) room ≡ record { number = 0; bytes = message.bytes; next = at_phase sender idle 0 }
  unfolding computing
  full_sent = simp (append-nil, long)

  full_told : (tables.receive hearer message no_offer room).told ≡ told
  unfolding computing
  full_told =
      let number = ap (λ (done : SendOutcome Endpoint). done.number) full_sent in
      let may : MayHear sender (report false (Given body)) hearer no_offer idle 0 = record { leads = refl; small = rw long refl; offered = refl } in
      let back = heard_as_sent sender (report false (Given body)) (omega arith) room number hearer no_offer idle 0 may in
      let carried = ap (body_heard message.bytes) back.carried.is ∙ ap Given back.carried.stands in
      ap (told_of message.bytes) back.answered ∙ (λ i. record { message = type_of Data; flags = 0; type-data = 0; body = carried i })

  -- and the slip refuses it
  full_refused : (done : ReceiveOutcome Endpoint) → done.told ≡ told → (measured hearer done).number ≡ 16
  unfolding computing div lt mul
  full_refused done is = rw (is, long) refl

  comparing_fails : ComparingMegabytesFails
  unfolding running
  comparing_fails demand =
      let refuses = full_refused (tables.receive hearer message no_offer room) full_told in
      let holds = after_data comparing_megabytes demand refl body _ full_sent in
      elim (rw refuses at (holds.answers Server message [] refl no_offer room (omega arith))) [ ]

pub comparing_megabytes_fails : ComparingMegabytesFails
comparing_megabytes_fails = some_body (limit - 8) comparing_fails
