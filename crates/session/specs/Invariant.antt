-- The invariant of two ends joined by two queues, in nine parts; those of one end are in `OneEnd`, those between two in `Linked`.
-- Stages (`Converge`), over the tables alone: one end stands at a stage at which nothing that comes moves it, and the other, once it has received
-- all, stands there too; or one wrote a CLOSE, and the other is closed once it has received all.
-- Endings (`PhaseFits`): an end is in phase 5 where it wrote or heard a CLOSE, and nowhere else.
-- Packets (`queued`, `proper`): each queue holds the messages of calls that were accepted, confirmations and refusals' CLOSEs.
-- Terms (`Settled`): a client always, and a server from the OPEN until it closes, has the client's limit and agrees on who produces.
-- Counts (`Within`, `OffersTaken`): what was sent and accepted, with what is left of the batch, is at most what was agreed, in all and in the newest
-- batch; and each batch agreed is at most its offer, of which at most one is still to be answered.
-- Confirmations (`Awaits`), each way: those awaited are those on the way back, then those owed, then those still asked for; the latter two are lost
-- once the other has closed.
-- Data, READYs and confirmations of DATA (`Delivers`), each way: what was sent is what was heard, and then what is on its way; an own close alone
-- stops that.
-- Accounts (`Accounts`): the DATA that an open end sent with an ask are those confirmed to it and those that it awaits, and those that it accepted
-- with an ask are those that it confirmed and those that it owes.
-- Goodness (`sound`, `role`, `flows`): each record is good, of the role and flow that it was made with.
use Rattle.std.specs.Prelude.{ℕ, ◌+◌, ◌≤◌, ◌<◌, ◌^◌, ◌≡◌, Bool, true, cond, length, eqb}
use mathlib.Core.List.{List, [], ◌∷◌, ◌++◌, map, flat_map}
use Rattle.control.specs.declared.MessageType.{MessageType}
use Rattle.endpoint.specs.declared.Endpoint.{Endpoint}
use Rattle.endpoint.specs.declared.Entry.{Entry}
use Rattle.endpoint.specs.Record.{offer, batch}
use Rattle.receiving.specs.Hearing.{confirmable}
use Rattle.sending.specs.Calls.{Call}
use Rattle.machine.specs.Good.{Sound, Fits}
use Rattle.session.specs.World.{End, Client, Server, across, Makings, History, Side, World, viewed_side}
use Rattle.session.specs.Packets.{Packet, Called, Confirms, Closes, queued_in, data_in, ready_in}
use Rattle.session.specs.Turns.{Standing, Listens, standing, role_of, Alive, Converge}
use Rattle.session.specs.Demand.{View, Ledger, PhaseFits, agreed, offers_at, sum, newest, EachAtMost, producing}
use Rattle.session.specs.Confirmations.{Accounts, Awaits, confirms_in}

-- ---- the parts of one end

-- the part of the batch that is left
abbrev pub left : ℕ → ℕ → ℕ
left phase n = cond (eqb phase batch) n 0

-- so many data, and so many in the newest batch, with what is left, are at most what was agreed
pub record Within (counts : List ℕ) (all recent phase n : ℕ) : Type 0 where
  pub in_all : all + left phase n ≤ sum counts
  pub in_newest : recent + left phase n ≤ newest counts

-- what was agreed is at most what was offered; in phase 3 the last offer is n and still to be answered, in the others all are answered
pub record OffersTaken (counts offers : List ℕ) (phase n : ℕ) : Type 0 where
  pub each : EachAtMost counts offers
  pub answered : List ℕ
  pub open_offer : phase ≡ offer → (offers ≡ answered ++ (n ∷ [])) × (length answered ≡ length counts)
  pub no_offer : phase ≤ batch → (phase ≡ offer → ⊥) → length offers ≡ length counts

pub record Counted (end : End) (past : History) (e : Endpoint) : Type 0 where
  pub within : Within (agreed end past) (length past.sent + length past.accepted) (length past.recent) e.phase e.n
  pub taken : OffersTaken (agreed end past) (offers_at end past) e.phase e.n

-- an end at b has heard what was sent, but for what p carries to it
pub record Delivers {A : Type 0} (carried : Packet → List A) (sent : List A) (p : List Packet) (b : Standing) (heard : List A) : Type 0 where
  pub rest : List A
  pub whole : sent ≡ heard ++ rest
  pub due : Listens b → rest ≡ flat_map carried p

-- a client knows the terms from the start, a server while it is open
abbrev pub Knows : End → ℕ → Type 0
Knows Client phase = Unit
Knows Server phase = Alive phase

-- the end that produces, once the server has heard the OPEN of the client
abbrev pub source : Makings → End
source makings = producing Client makings.flow

abbrev pub flow_at : Makings → End → ℕ
flow_at makings Client = makings.flow
flow_at makings Server = makings.server_flow

pub record Settled (makings : Makings) (end : End) (e : Endpoint) : Type 0 where
  pub limited : e.limit ≡ makings.limit
  pub produced : producing end e.flow ≡ source makings

-- ---- a program's part

-- the rules of a program: what it makes sure of in a call that it accepts; which messages it confirms at once, the others being owed first; and which
-- entries stand on a line, "oldest" being of one line
pub record Rules : Type 1 where
  pub Accepts : Endpoint → Call → Type 0
  pub prompt : MessageType → Bool
  pub pick : ℕ → List Entry → List Entry

-- what is to be known of a program and its states: what they hold, and which are fine, that is good in all that they hold
pub record Model (A : Type 0) : Type 1 where
  pub view : View A
  pub Fine : A → Type 0
  pub rules : Rules

module _ (makings : Makings) (rules : Rules) where
  -- a call that was accepted, of an end that was made so
  pub record AcceptedCall (end : End) (e : Endpoint) (call : Call) : Type 0 where
    pub fits : Fits call
    pub accepted : rules.Accepts e call
    pub flows : e.flow ≡ flow_at makings end
    pub limited : e.limit ≡ makings.limit

  abbrev pub Proper : End → Packet → Type 0
  Proper end (Called e call) = AcceptedCall end e call
  Proper end (Confirms message type-data) = (confirmable message ≡ true) × (type-data < 256 ^ 2)
  Proper end (Closes code) = code < 256 ^ 2

  abbrev pub AllProper : End → List Packet → Type 0
  AllProper end [] = Unit
  AllProper end (m ∷ rest) = Proper end m × AllProper end rest

  -- one end that wrote p
  pub record OneEnd (end : End) (x : Side Endpoint) (p : List Packet) : Type 0 where
    pub sound : Sound x.self
    pub role : x.self.role ≡ role_of end
    pub flows : x.self.flow ≡ flow_at makings end
    pub ends : PhaseFits x.past.ending x.self.phase
    pub queued : x.queue ≡ map queued_in p
    pub proper : AllProper end p
    pub settled : Knows end x.self.phase → Settled makings end x.self
    pub counted : Counted end x.past x.self

  -- an end x that wrote p, with this ledger, and y across from it that wrote q
  pub record Linked (end : End) (x y : Side Endpoint) (p q : List Packet) (dues dues-across : Ledger) : Type 0 where
    pub here : OneEnd end x p
    pub there : OneEnd (across end) y q
    pub converge : Converge (source makings) end (standing x) p (standing y) q
    pub awaits : (line : ℕ) → Awaits (rules.pick line) (standing x) (dues.waits line) p (standing y) (dues-across.owes line) q
    pub awaits_across : (line : ℕ) → Awaits (rules.pick line) (standing y) (dues-across.waits line) q (standing x) (dues.owes line) p
    pub delivers : Delivers data_in x.past.sent p (standing y) y.past.accepted
    pub delivers_across : Delivers data_in y.past.sent q (standing x) x.past.accepted
    pub readies : Delivers ready_in x.past.readies p (standing y) y.past.readies_heard
    pub readies_across : Delivers ready_in y.past.readies q (standing x) x.past.readies_heard
    pub confirmations : Delivers confirms_in x.past.confirmations p (standing y) y.past.confirmations_heard
    pub confirmations_across : Delivers confirms_in y.past.confirmations q (standing x) x.past.confirmations_heard
    pub accounts : Accounts (standing x) x.past (dues.waits 0) (dues.owes 0)
    pub accounts_across : Accounts (standing y) y.past (dues-across.waits 0) (dues-across.owes 0)

module _ {A : Type 0} (makings : Makings) (model : Model A) where
  -- two ends with what is on its way between them, whose states are fine
  pub record Joint (end : End) (x y : Side A) : Type 0 where
    pub from_here : List Packet
    pub from_across : List Packet
    pub linked : Linked makings model.rules end (viewed_side model.view.endpoint x) (viewed_side model.view.endpoint y)
        from_here from_across (model.view.ledger x.self) (model.view.ledger y.self)
    pub fine : model.Fine x.self
    pub fine_across : model.Fine y.self

-- the invariant of a world, with what its ends were made with
pub record Invariant {A : Type 0} (model : Model A) (w : World A) : Type 0 where
  pub makings : Makings
  pub joint : Joint makings model Client w.client w.server
