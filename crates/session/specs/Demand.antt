-- Demand 3: "Whatever is called and delivered, in any order, neither end refuses the other's message, except an OPEN for a pipe, socket or data format
-- not offered, or a message arriving after its own close. The data accepted is at every moment a leading part of the data sent, and never more than
-- the batches agreed. While neither has closed and nothing is in transit, one end may still send a message other than NOOP and CLOSE."
use Rattle.std.specs.Prelude.{ℕ, Ok, ◌+◌, ◌≤◌, ◌<◌, ◌≡◌, Bool, true, false, cond, ◌||◌, length, eqb}
use mathlib.Core.List.{List, [], ◌∷◌, ◌++◌, IsPrefix}
use Rattle.open.specs.Offer.{Offer, offer_of}
use Rattle.open_write.specs.Round.{same_pipe, same_format}
use Rattle.endpoint.specs.declared.Endpoint.{Endpoint}
use Rattle.endpoint.specs.declared.Entry.{Entry}
use Rattle.endpoint.specs.Record.{awaited, reports_in, producer, fresh, offer, batch, shut, good, given_of}
use Rattle.sending.specs.Calls.{Given, Datum, Call, OPEN, READY, DATA, NOOP, CLOSE, written}
use Rattle.machine.specs.Good.{Fits}
use Rattle.machine.specs.Programs.{Making, fresh_by, Queued, Program, tables}
use Rattle.session.specs.World.{End, Client, Server, across, Makings, making_of, Ending, Going, HeardClose, WroteClose, History, asked_for, Side, World, side}
use Rattle.session.specs.World.{Event, receives, AllFit, step, run, begun, viewed_side}

-- what an end awaits and what it owes, line by line: a line has the messages whose confirmations come in one order, "ACK-REPLY must equal the oldest
-- entry" of it, and by document 01 there is one
pub record Ledger : Type 0 where
  pub waits : ℕ → List Entry
  pub owes : ℕ → List Entry

-- what the states of a program hold
pub record View (A : Type 0) : Type 0 where
  pub endpoint : A → Endpoint
  pub ledger : A → Ledger

-- those of the tables: there is one line, and nothing is owed, as every ask is confirmed at once
abbrev pub prompt_ledger : Endpoint → Ledger
prompt_ledger e = record { waits = λ line. awaited e; owes = λ line. [] }

abbrev pub as_records : View Endpoint
as_records = record { endpoint = λ e. e; ledger = prompt_ledger }

-- nothing is awaited or owed
abbrev pub nothing_due : Ledger
nothing_due = record { waits = λ line. []; owes = λ line. [] }

-- a fresh end: it was made with a flow and a limit that 34 does not refuse, and holds what that gives
pub record Fresh {A : Type 0} (view : View A) (making : Making) (self : A) : Type 0 where
  pub given : given_of (fresh_by making).flow (fresh_by making).limit ≡ Ok tt
  pub holds : view.endpoint self ≡ fresh_by making
  pub none_due : view.ledger self ≡ nothing_due

-- "neither end refuses the other's message": what x answers to the bytes s that y wrote, with this offer. It hears them, unless that is an OPEN for
-- another pipe name or socket, or for another format, or x has itself closed.
pub data MayAnswer (x y : Side Endpoint) (s : List ℕ) (pipe : Offer) : ℕ → Type 0 where
  heard : MayAnswer x y s pipe 0
  other_pipe : (asked : Offer) → s ≡ written y.self (OPEN asked)
      → same_pipe y.self.flow asked x.self.flow pipe ≡ false → MayAnswer x y s pipe 21
  other_format : (asked : Offer) → s ≡ written y.self (OPEN asked)
      → same_format asked pipe ≡ false → MayAnswer x y s pipe 22
  after_own_close : x.past.ending ≡ WroteClose → MayAnswer x y s pipe 3

-- "5 closed": an end has closed where its phase is 5, and nowhere else
abbrev pub PhaseFits : Ending → ℕ → Type 0
PhaseFits Going phase = phase ≤ batch
PhaseFits HeardClose phase = phase ≡ shut
PhaseFits WroteClose phase = phase ≡ shut

-- "the batches agreed": the READYs that the client sent; at the server, those of them that it heard
abbrev pub agreed : End → History → List ℕ
agreed Client past = past.readies
agreed Server past = past.readies_heard

-- the sum of their counts, and the count of the newest
abbrev pub sum : List ℕ → ℕ
sum [] = 0
sum (count ∷ rest) = count + sum rest

abbrev pub newest : List ℕ → ℕ
newest [] = 0
newest (count ∷ []) = count
newest (count ∷ next ∷ rest) = newest (next ∷ rest)

-- the offers: the READYs that the server sent, but for those of 0; at the client, those that it heard
abbrev pub non_zero : List ℕ → List ℕ
non_zero [] = []
non_zero (count ∷ rest) = cond (eqb count 0) (non_zero rest) (count ∷ non_zero rest)

abbrev pub offers_at : End → History → List ℕ
offers_at Client past = non_zero past.readies_heard
offers_at Server past = non_zero past.readies

-- "k at most n": each count is at most the one at its place
abbrev pub EachAtMost : List ℕ → List ℕ → Type 0
EachAtMost [] offers = Unit
EachAtMost (count ∷ rest) [] = ⊥
EachAtMost (count ∷ rest) (most ∷ others) = (count ≤ most) × EachAtMost rest others

-- C-14: "how many of the awaited confirmations belong to DATA", at an end that did and heard this, across from one that did and heard that
pub record Accounted (here there : History) (e : Endpoint) : Type 0 where
  -- until the end closes, the DATA that it sent with an ask are those whose confirmation it heard, and then those that it awaits
  pub waits_for_rest : here.ending ≡ Going → asked_for here.sent ≡ here.confirmations_heard ++ reports_in (awaited e)
  -- so the count is of those sent with an ask less those confirmed; and a close clears it
  pub unconfirmed : here.ending ≡ Going → length (asked_for here.sent) ≡ length here.confirmations_heard + e.unconfirmed
  pub cleared : (here.ending ≡ Going → ⊥) → e.unconfirmed ≡ 0
  -- a confirmation that is heard was sent, and what an end confirms it accepted with an ask, each in order
  pub confirmations_lead : IsPrefix here.confirmations_heard there.confirmations
  pub confirms_accepted : IsPrefix here.confirmations (asked_for here.accepted)

-- "a message other than NOOP and CLOSE"
abbrev pub moves_on : Call → Bool
moves_on (OPEN asked) = true
moves_on (READY count) = true
moves_on (DATA datum) = true
moves_on (NOOP type-data ask) = false
moves_on (CLOSE code) = false

-- the end that produces, seen from an end of this flow
abbrev pub producing : End → ℕ → End
producing end flow = cond (eqb flow producer) end (across end)

-- whose turn it is, where `source` produces: OPEN is the client's, an offer the server's, its taking the client's, and DATA the producer's
unfoldable pub turn : End → ℕ → End
turn source phase = cond (eqb phase fresh || eqb phase offer) Client (cond (eqb phase batch) source Server)

-- what may be sent at rest, where both ends are in the client's phase, by the end whose turn it is: in phase 0 an OPEN for the pipe `a`, in
-- phase 3 a READY for the whole offer, in phase 4 a DATA with no ask and an empty body, in phases 1 and 2 an offer of one
abbrev pub next_end : Endpoint → End
next_end e = turn (producing Client e.flow) e.phase

abbrev pub pipe_a : Offer
pipe_a = offer_of (97 ∷ []) []

abbrev pub empty_datum : Datum
empty_datum = record { type-data = 0; ask = false; body = Given [] }

abbrev pub next_call : Endpoint → Call
next_call e =
    cond (eqb e.phase fresh) (OPEN pipe_a)
    (cond (eqb e.phase offer) (READY e.n)
    (cond (eqb e.phase batch) (DATA empty_datum)
    (READY 1)))

-- "While neither has closed and nothing is in transit"
pub record AtRest {A : Type 0} (w : World A) : Type 0 where
  pub going : (end : End) → (side w end).past.ending ≡ Going
  pub none_coming : (end : End) → (side w end).queue ≡ []

-- of a program whose states hold endpoints
module _ {A O : Type 0} (p : Program A O) (view : View A) where
  -- an end may send a call: in every output with room for it, and it is written
  pub record MaySend (self : A) (call : Call) : Type 0 where
    pub fits : Fits call
    pub moves-on : moves_on call ≡ true
    pub accepted : (out : O) → length (written (view.endpoint self) call) ≤ p.room out
        → ((p.send self call out).number ≡ 0) × ((p.send self call out).bytes ≡ written (view.endpoint self) call)

  -- what holds of a world
  pub record Holds (w : World A) : Type 0 where
    -- whatever an end was lent, sent and received, its state is good
    pub stays_good : (end : End) → good (view.endpoint (side w end).self) ≡ true
    -- "neither end refuses the other's message"
    pub answers : (end : End) (m : Queued) (rest : List Queued) → (side w (across end)).queue ≡ m ∷ rest
        → (pipe : Offer) (out : O) → 14 ≤ p.room out
        → MayAnswer (viewed_side view.endpoint (side w end)) (viewed_side view.endpoint (side w (across end))) m.bytes pipe
        (p.receive (side w end).self m pipe out).number
    -- 2, "output too short": nothing changes, and the message stays where it is
    pub no_room : (end : End) (m : Queued) (rest : List Queued) → (side w (across end)).queue ≡ m ∷ rest
        → (pipe : Offer) (out : O) → p.room out < 14
        → ((p.receive (side w end).self m pipe out).number ≡ 2) × (step p w (receives end pipe out) ≡ w)
    -- an end has closed where its phase is 5; the CLOSE that one heard was written by the other, and nothing at all arrives behind it; and the CLOSE
    -- that one wrote closes the other, once it has arrived
    pub closed_by_phase : (end : End) → PhaseFits (side w end).past.ending (view.endpoint (side w end).self).phase
    pub close_was_written : (end : End) → (side w end).past.ending ≡ HeardClose → (side w (across end)).past.ending ≡ WroteClose
    pub nothing_after_close : (end : End) → (side w end).past.ending ≡ HeardClose → (side w (across end)).queue ≡ []
    pub close_arrives : (end : End) → (side w end).past.ending ≡ WroteClose → (side w end).queue ≡ [] → (side w (across end)).past.ending ≡ Going → ⊥
    -- "The data accepted is at every moment a leading part of the data sent", and so are the READYs heard of those sent
    pub data_leads : (end : End) → IsPrefix (side w end).past.accepted (side w (across end)).past.sent
    pub readies_lead : (end : End) → IsPrefix (side w end).past.readies_heard (side w (across end)).past.readies
    -- and nothing is lost: an end that has not itself closed, and to which nothing is coming, has accepted all that was sent, and heard every READY
    -- and every confirmation of DATA
    pub nothing_lost : (end : End) → ((side w end).past.ending ≡ WroteClose → ⊥) → (side w (across end)).queue ≡ []
        → ((side w end).past.accepted ≡ (side w (across end)).past.sent) × ((side w end).past.readies_heard ≡ (side w (across end)).past.readies)
        × ((side w end).past.confirmations_heard ≡ (side w (across end)).past.confirmations)
    -- "and never more than the batches agreed": in all of them, by either end's count, and in the newest, at the end that accepts; a batch that is over
    -- was the newest until the READY that began the next, so this holds of each
    pub within : length w.client.past.accepted + length w.server.past.accepted ≤ sum (agreed Client w.client.past)
    pub within_own : (end : End) → length (side w end).past.sent + length (side w end).past.accepted ≤ sum (agreed end (side w end).past)
    pub within_newest : (end : End) → length (side w end).past.recent ≤ newest (agreed end (side w end).past)
    -- and a batch agreed is never more than its offer
    pub within_offers : (end : End) → EachAtMost (agreed end (side w end).past) (offers_at end (side w end).past)
    -- at rest both ends are in one phase with one n, and an end awaits just what the other owes, which by the tables is nothing
    pub same_at_rest : AtRest w → ((view.endpoint w.client.self).phase ≡ (view.endpoint w.server.self).phase)
        × ((view.endpoint w.client.self).n ≡ (view.endpoint w.server.self).n)
    pub awaits_what_is_owed : AtRest w → (end : End) (line : ℕ)
        → (view.ledger (side w end).self).waits line ≡ (view.ledger (side w (across end)).self).owes line
    -- C-14: the DATA of an end that are unconfirmed
    pub accounted : (end : End) → Accounted (side w end).past (side w (across end)).past (view.endpoint (side w end).self)
    -- "one end may still send a message other than NOOP and CLOSE"
    pub may_send : AtRest w
        → MaySend (side w (next_end (view.endpoint w.client.self))).self (next_call (view.endpoint w.client.self))

  -- for a fresh client of any flow and limit, a fresh server of any flow, and every list of calls
  abbrev pub DemandOf : Type 0
  DemandOf =
      (makings : Makings) (client server : A) → Fresh view (making_of makings Client) client → Fresh view (making_of makings Server) server
      → (events : List (Event O)) → AllFit p (begun client server) events → Holds (run p (begun client server) events)

-- demand 3, over the tables
abbrev pub Demand : Type 0
Demand = DemandOf tables as_records

-- every endpoint that making gives is fresh
abbrev pub FreshRecords : Type 0
FreshRecords = (making : Making) → given_of (fresh_by making).flow (fresh_by making).limit ≡ Ok tt → Fresh as_records making (fresh_by making)
