-- "A Rattle caller lends the endpoint record, which is changed in place": what the sends and receive answer and leave, by the same tables as for a
-- record by value.
use Rattle.std.specs.Prelude.{ℕ, ◌≡◌, List, length, Option, Result, Ok, Err}
use Rattle.control.specs.declared.Control.{Control}
use Rattle.open.specs.Offer.{Offer}
use Rattle.endpoint.specs.declared.Endpoint.{Endpoint}
use Rattle.receiving.specs.Numbers.{Answer, answer_as, Received}
use Rattle.receiving.specs.Receiving.{replied, received_of}
use Rattle.sending.specs.declared.Refusal.{Refusal}
use Rattle.sending.specs.Calls.{Call, written}
use Rattle.sending.specs.Sending.{send_of, left_by, Sent}
use Rattle.lent.specs.declared.Outcome.{Outcome as NamedOutcome}
use Rattle.sending.specs.Numbers.{refusal_number}

-- 0 or the number that refuses a send, and how many bytes are written
pub record Told : Type 0 where
  pub number : ℕ
  pub written : ℕ

abbrev pub told_of : Sent → Told
told_of sent = record { number = sent.number; written = sent.written }

-- what an answer tells
abbrev pub told_as : Result ℕ Refusal → Told
told_as (Ok written) = record { number = 0; written = written }
told_as (Err why) = record { number = refusal_number why; written = 0 }

-- what a send of this record tells, and the record and the output afterwards
pub record SendOnLent (e : Endpoint) (call : Call) (before : List ℕ) (told : Told) (next : Endpoint) (after : List ℕ) : Type 0 where
  pub answered : told ≡ told_of (send_of e call (length before))
  pub changed : next ≡ (send_of e call (length before)).next
  pub left : after ≡ left_by (send_of e call (length before)) (written e call) before

-- the answer, with a refusal by its number, and the reply
pub record Outcome : Type 0 where
  pub answer : Answer
  pub reply : Option Control

abbrev pub outcome_as : NamedOutcome → Outcome
outcome_as outcome = record { answer = answer_as outcome.answer; reply = outcome.reply }

abbrev pub outcome_of : Received → Outcome
outcome_of received = record { answer = received.answer; reply = received.reply }

-- what a receive of this record answers, and the record and the output afterwards
pub record ReceiveOnLent (e : Endpoint) (s : List ℕ) (pipe : Offer) (before : List ℕ) (outcome : Outcome) (next : Endpoint) (after : List ℕ) : Type 0 where
  pub answered : outcome ≡ outcome_of (received_of e s pipe (length before))
  pub changed : next ≡ (received_of e s pipe (length before)).next
  pub left : after ≡ replied (received_of e s pipe (length before)).reply before
