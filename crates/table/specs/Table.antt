-- "Sending": the table, row by row. It is the table of what is heard too: what an end may hear, and what it then becomes, is the row of a sender of
-- the other role and the other flow, in the hearer's phase and with the hearer's n; `receiving/specs/Rows` has that in the words of "Receiving".
use Rattle.std.specs.Prelude.{ℕ, ◌-◌, Result, Ok, Err, Bool, true, false, cond, ◌&&◌, ◌||◌, leb, eqb}
use Rattle.control.specs.declared.MessageType.{MessageType}
use Rattle.control.specs.declared.MessageType.TheVariants.{Open, Ready, Noop, Data, Close}
use Rattle.endpoint.specs.declared.Endpoint.{Endpoint}
use Rattle.endpoint.specs.Record.{client, producer, fresh, opening, idle, offer, batch, shut, closed, at_phase}
use Rattle.table.specs.declared.Refusal.{Refusal}
use Rattle.table.specs.declared.Refusal.TheVariants.{NotAllowed, AboveOffer}
use Rattle.table.specs.declared.Step.{Step}

-- "After it"
abbrev pub To : ℕ → ℕ → Result Step Refusal
To phase n = Ok (record { phase = phase; n = n })

-- "Allowed"
abbrev pub allowed : Bool → Result Step Refusal → Result Step Refusal
allowed test row = cond test row (Err NotAllowed)

-- "k at most n"
abbrev pub up_to : Bool → Result Step Refusal → Result Step Refusal
up_to test row = cond test row (Err AboveOffer)

-- READY: "k=0: 2; else .., n=k"; DATA: "n less 1; at 0, phase 2"
unfoldable pub begun : ℕ → ℕ → Result Step Refusal
begun phase count = cond (eqb count 0) (To idle 0) (To phase count)

-- | OPEN | client, phase 0 | 1 |
unfoldable pub open_row : ℕ → ℕ → Result Step Refusal
open_row role phase = allowed (eqb role client && eqb phase fresh) (To opening 0)

-- | READY(k), client | phase 3, k at most n | k=0: 2; else 4, n=k |
-- | READY(k), server | phase 1 or 2 | k=0: 2; else 3, n=k |
unfoldable pub ready_row : ℕ → ℕ → ℕ → ℕ → Result Step Refusal
ready_row role phase n count =
    cond (eqb role client)
    (allowed (eqb phase offer) (up_to (leb count n) (begun batch count)))
    (allowed (eqb phase opening || eqb phase idle) (begun offer count))

-- | DATA | producer, phase 4 | n less 1; at 0, phase 2 |
unfoldable pub data_row : ℕ → ℕ → ℕ → Result Step Refusal
data_row flow phase n = allowed (eqb flow producer && eqb phase batch) (begun batch (n - 1))

-- | NOOP | phase 2, 3, 4 | same |
unfoldable pub noop_row : ℕ → ℕ → Result Step Refusal
noop_row phase n = allowed (leb idle phase && leb phase batch) (To phase n)

-- | CLOSE(code) | phase 1 to 4 | 5, n and W and entries zero |: W and the entries by `at_row`
unfoldable pub close_row : ℕ → Result Step Refusal
close_row phase = allowed (leb opening phase && leb phase batch) (To shut 0)

-- the row for a message that an end of this role and flow sends
abbrev pub row_of : ℕ → ℕ → ℕ → ℕ → MessageType → ℕ → Result Step Refusal
row_of role flow phase n Open type-data = open_row role phase
row_of role flow phase n Ready type-data = ready_row role phase n type-data
row_of role flow phase n Noop type-data = noop_row phase n
row_of role flow phase n Data type-data = data_row flow phase n
row_of role flow phase n Close type-data = close_row phase

-- "17 role, flow or phase doesn't allow it", "23 READY above the offer"
abbrev pub hear_number : Result Step Refusal → ℕ
hear_number (Err NotAllowed) = 17
hear_number (Err AboveOffer) = 23
hear_number (Ok step) = 0

-- "30 send not allowed now", "31 READY above the offer, own send"
abbrev pub send_number : Result Step Refusal → ℕ
send_number (Err NotAllowed) = 30
send_number (Err AboveOffer) = 31
send_number (Ok step) = 0

abbrev pub not_allowed : Result Step Refusal → Bool
not_allowed (Err NotAllowed) = true
not_allowed (Err AboveOffer) = false
not_allowed (Ok step) = false

abbrev pub above_offer : Result Step Refusal → Bool
above_offer (Err NotAllowed) = false
above_offer (Err AboveOffer) = true
above_offer (Ok step) = false

-- the other role, or the other flow; any number but 1 counts as 2
abbrev pub other : ℕ → ℕ
other number = cond (eqb number 1) 2 1

-- "After it": another phase and n, and at a close "n and W and entries zero"
unfoldable pub at_row : Endpoint → ℕ → ℕ → Endpoint
at_row e phase n = cond (eqb phase shut) (closed e) (at_phase e phase n)

abbrev pub moved : Endpoint → Result Step Refusal → Endpoint
moved e (Err refusal) = e
moved e (Ok step) = at_row e step.phase step.n
