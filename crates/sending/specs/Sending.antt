-- "Sends test 1, 3, 30, 31, 32, 33, 34, 35, 2." "An accepted send or reply writes its own bytes from the start of the output and nothing
-- behind them."
use Rattle.std.specs.Prelude.{ℕ, ◌≡◌, List, Bool, cond, not, ◌&&◌, length, ltb, leb, eqb, Ok, Err, Result}
use Rattle.bytes_be.specs.Part.{put_at}
use Rattle.control.specs.Frame.{type_of}
use Rattle.endpoint.specs.declared.Endpoint.{Endpoint}
use Rattle.endpoint.specs.Record.{good, shut, capacity, asked}
use Rattle.table.specs.declared.Refusal.TheVariants.{NotAllowed, AboveOffer}
use Rattle.table.specs.declared.Refusal.{Refusal}
use Rattle.table.specs.declared.Step.{Step}
use Rattle.table.specs.Table.{row_of, send_number, not_allowed, above_offer, moved}
use Rattle.sending.specs.declared.Refusal.{Refusal as Send-refusal}
use Rattle.sending.specs.declared.Sent.{Sent as Accepted}
use Rattle.sending.specs.Calls.{Call, Outgoing, outgoing, written}
use Rattle.sending.specs.Numbers.{refusal_number}

-- the row of the table for an own message
unfoldable pub send_row : Endpoint → Outgoing → Result Step Refusal
send_row e o = row_of e.role e.flow e.phase e.n o.message o.type_data

-- 32: "ask with W = 16"
unfoldable pub is_full : Endpoint → Outgoing → Bool
is_full e o = o.ask && leb capacity e.w

-- "1, 3, 30, 31, 32, 33, 34, 35, 2": the first that applies, or 0. 30 and 31 are the numbers of the row, and of 33, 34 and 35 a call has
-- at most one, its own
unfoldable pub number_for : Endpoint → Outgoing → Result Step Refusal → ℕ → ℕ
number_for e o row room =
    cond (not (good e)) 1
    (cond (eqb e.phase shut) 3
    (cond (not_allowed row) (send_number (Err NotAllowed))
    (cond (above_offer row) (send_number (Err AboveOffer))
    (cond (is_full e o) 32
    (cond (not (eqb o.own 0)) o.own
    (cond (ltb room o.length) 2
    0))))))

-- "An ask adds an entry."
unfoldable pub asked_by : Endpoint → Outgoing → Endpoint
asked_by e o = cond o.ask (asked e (record { message = type_of o.message; type_data = o.type_data })) e

-- what comes of a send: 0 or the number that refuses it, the endpoint afterwards, and how many bytes are written
pub record Sent : Type 0 where
  pub number : ℕ
  pub next : Endpoint
  pub written : ℕ

-- "All others change no byte."
abbrev pub unsent : Endpoint → ℕ → Sent
unsent e number = record { number = number; next = e; written = 0 }

-- what an answer says of this endpoint, by the numbers of what refuses: a refusal leaves it
abbrev pub numbered_as : {Why : Type 0} → (Why → ℕ) → Endpoint → Result Accepted Why → Sent
numbered_as number e (Ok sent) = record { number = 0; next = sent.next; written = sent.written }
numbered_as number e (Err why) = unsent e (number why)

-- what the answer of a send says
abbrev pub sent_as : Endpoint → Result Accepted Send-refusal → Sent
sent_as = numbered_as refusal_number

-- the number, the endpoint "After it", and how many bytes are written
abbrev pub sent_if : ℕ → Endpoint → Outgoing → Result Step Refusal → Sent
sent_if number e o row =
    cond (eqb number 0)
    (record { number = 0; next = asked_by (moved e row) o; written = o.length })
    (unsent e number)

unfoldable pub sent_by : Endpoint → Outgoing → ℕ → Sent
sent_by e o room = sent_if (number_for e o (send_row e o) room) e o (send_row e o)

-- what came of a call
abbrev pub send_of : Endpoint → Call → ℕ → Sent
send_of e call room = sent_by e (outgoing e call) room

-- the output afterwards: the bytes of what was sent at its start, or as it was
unfoldable pub left_by : Sent → List ℕ → List ℕ → List ℕ
left_by sent bytes out = cond (eqb sent.number 0) (put_at out 0 bytes) out

-- what a send answers, and the output afterwards
pub record Answered (e : Endpoint) (o : Outgoing) (bytes before : List ℕ) (sent : Result Accepted Send-refusal) (after : List ℕ) : Type 0 where
  pub answered : sent_as e sent ≡ sent_by e o (length before)
  pub left : after ≡ left_by (sent_by e o (length before)) bytes before

abbrev pub SendAnswer : Endpoint → Call → List ℕ → Result Accepted Send-refusal → List ℕ → Type 0
SendAnswer e call before sent after = Answered e (outgoing e call) (written e call) before sent after
