-- What demand 3 rests on: the laws that a program owes, whose states hold endpoints. All else is proved of every program that has them.
use Rattle.std.specs.Prelude.{ℕ, ◌+◌, ◌≤◌, ◌<◌, ◌^◌, ◌≡◌, Bool, true, false, cond, length, eqb}
use mathlib.Core.List.{List, [], ◌∷◌, ◌++◌, flat_map, map}
use Rattle.control.specs.declared.MessageType.{MessageType}
use Rattle.control.specs.declared.MessageType.TheVariants.{Open, Data}
use Rattle.open.specs.Offer.{Offer}
use Rattle.endpoint.specs.declared.Endpoint.{Endpoint}
use Rattle.endpoint.specs.declared.Entry.{Entry}
use Rattle.endpoint.specs.Record.{awaited, capacity, closed, reports_in, server, shut}
use Rattle.table.specs.Table.{To, other, row_of}
use Rattle.sending.specs.Calls.{Call, OPEN, READY, DATA, NOOP, CLOSE, message_of, type_data_of, ask_of, own_number, written}
use Rattle.sending.specs.Options.{how_of}
use Rattle.sending.specs.Sending.{send_of}
use Rattle.machine.specs.Good.{Sound, Fits}
use Rattle.machine.specs.Round.{is_offered}
use Rattle.machine.specs.Programs.{Making, Queued, nothing_told, SendOutcome, ReceiveOutcome, ignored, Program, tables}
use Rattle.session.specs.World.{End, Client, Server, across, Makings, making_of, data_sent, ready_count, Side, World, Event, EventFits, step, begun}
use Rattle.session.specs.World.{viewed_side}
use Rattle.session.specs.Packets.{Packet, Called, Confirms, Closes, queued_in, bytes_in, told_in, row_message, type_data_in, data_in, ready_in}
use Rattle.session.specs.Demand.{Ledger, as_records, Fresh, MayAnswer, Holds, DemandOf}
use Rattle.session.specs.Confirmations.{asked_in, confirmed_in, confirms_in}
use Rattle.session.specs.Invariant.{flow_at, Rules, Model, AcceptedCall, Proper, Invariant}

-- what a line is: of no entries none stands on any, and C-14: every entry of DATA stands on line 0
pub record Lines (pick : ℕ → List Entry → List Entry) : Type 0 where
  pub none : (line : ℕ) → pick line [] ≡ []
  pub reports : (entries : List Entry) → reports_in (pick 0 entries) ≡ reports_in entries

-- the limit of an end that has heard a packet
abbrev pub limit_after : Packet → ℕ → ℕ
limit_after (Called e (OPEN asked)) limit = e.limit
limit_after (Called e (READY count)) limit = limit
limit_after (Called e (DATA datum)) limit = limit
limit_after (Called e (NOOP type-data ask)) limit = limit
limit_after (Called e (CLOSE code)) limit = limit
limit_after (Confirms message type-data) limit = limit
limit_after (Closes code) limit = limit

-- an endpoint that is another one in this phase with this n and limit
pub record Comes (e : Endpoint) (phase n limit : ℕ) (next : Endpoint) : Type 0 where
  pub sound : Sound next
  pub phased : next.phase ≡ phase
  pub counted : next.n ≡ n
  pub role : next.role ≡ e.role
  pub flow : next.flow ≡ e.flow
  pub limited : next.limit ≡ limit

-- the confirmation that an end writes for a packet
abbrev pub answers_in : (MessageType → Bool) → Packet → List Packet
answers_in prompt (Called e call) =
    cond (ask_of call) (cond (prompt (message_of call)) (Confirms (message_of call) (type_data_of call) ∷ []) []) []
answers_in prompt (Confirms message type-data) = []
answers_in prompt (Closes code) = []

-- whether an OPEN asks for what is offered
abbrev pub offered_in : Packet → Endpoint → Offer → Bool
offered_in (Called e call) r pipe = is_offered e call r pipe
offered_in (Confirms message type-data) r pipe = true
offered_in (Closes code) r pipe = true

-- a call that does not ask, that its own test does not refuse, and whose row leads on
pub record MayCall (e : Endpoint) (call : Call) : Type 0 where
  pub sound : Sound e
  pub alive : eqb e.phase shut ≡ false
  pub phase : ℕ
  pub n : ℕ
  pub leads : row_of e.role e.flow e.phase e.n (message_of call) (type_data_of call) ≡ To phase n
  pub askless : ask_of call ≡ false
  pub unrefused : own_number e call ≡ 0

module _ (rules : Rules) where
  -- what an end must be to hear a packet
  pub record MayTake (makings : Makings) (end : End) (r : Endpoint) (dues : Ledger) (m : Packet) (pipe : Offer) (phase n : ℕ)
      (rest : ℕ → List Entry) : Type 0 where
    pub sound : Sound r
    pub proper : Proper makings rules (across end) m
    pub leads : row_of (other r.role) (other r.flow) r.phase r.n (row_message m) (type_data_in m) ≡ To phase n
    pub limited : row_message m ≡ Data → r.limit ≡ makings.limit
    pub offered : offered_in m r pipe ≡ true
    pub awaits : (line : ℕ) → dues.waits line ≡ rules.pick line (confirmed_in m) ++ rest line
    pub few : (line : ℕ) → length (dues.owes line) + length (rules.pick line (asked_in m)) ≤ capacity

  -- what a server must be to refuse the OPEN of y
  pub record MayRefuse (makings : Makings) (x y : Side Endpoint) (e : Endpoint) (asked pipe : Offer) : Type 0 where
    pub sound : Sound x.self
    pub serves : x.self.role ≡ server
    pub accepted : AcceptedCall makings rules Client e (OPEN asked)
    pub same_flow : y.self.flow ≡ e.flow
    pub same_limit : y.self.limit ≡ e.limit
    pub phase : ℕ
    pub n : ℕ
    pub leads : row_of (other x.self.role) (other x.self.flow) x.self.phase x.self.n Open 0 ≡ To phase n
    pub differs : is_offered e (OPEN asked) x.self pipe ≡ false

module _ {A : Type 0} (model : Model A) where
  -- a call that was accepted puts a packet on its way that carries what the call sends, leads where its row does, awaits what it asks for, and
  -- owes no more what it confirms
  pub record SentOn (e : Endpoint) (dues : Ledger) (call : Call) (result : SendOutcome A) : Type 0 where
    pub packet : Packet
    pub queued : record { bytes = result.bytes; how = how_of call } ≡ queued_in packet
    pub proper : (makings : Makings) (end : End) → e.flow ≡ flow_at makings end → e.limit ≡ makings.limit → Proper makings model.rules end packet
    pub carried : data_sent call ≡ data_in packet
    pub readied : ready_count (message_of call) (type_data_of call) ≡ ready_in packet
    pub confirmless : confirms_in packet ≡ []
    pub phase : ℕ
    pub n : ℕ
    pub leads : row_of e.role e.flow e.phase e.n (message_of call) (type_data_of call) ≡ To phase n
    pub sends : row_of e.role e.flow e.phase e.n (row_message packet) (type_data_in packet) ≡ To phase n
    pub fine : model.Fine result.next
    pub comes : Comes e phase n e.limit (model.view.endpoint result.next)
    pub awaits : (line : ℕ) → (phase ≡ shut → ⊥)
        → (model.view.ledger result.next).waits line ≡ dues.waits line ++ model.rules.pick line (asked_in packet)
    pub silent : phase ≡ shut → (line : ℕ) → model.rules.pick line (asked_in packet) ≡ []
    pub left : ℕ → List Entry
    pub files : (line : ℕ) → dues.owes line ≡ model.rules.pick line (confirmed_in packet) ++ left line
    pub owes : (line : ℕ) → (phase ≡ shut → ⊥) → (model.view.ledger result.next).owes line ≡ left line

  -- a packet that is heard: it is told as it was sent, and confirmed at once or owed
  pub record HeardOn (r : Endpoint) (dues : Ledger) (m : Packet) (phase n : ℕ) (rest : ℕ → List Entry) (result : ReceiveOutcome A) : Type 0 where
    pub answered : result.number ≡ 0
    pub told : result.told ≡ told_in m
    pub replied : result.replied ≡ map bytes_in (answers_in model.rules.prompt m)
    pub fine : model.Fine result.next
    pub comes : Comes r phase n (limit_after m r.limit) (model.view.endpoint result.next)
    pub awaits : (line : ℕ) → (phase ≡ shut → ⊥) → (model.view.ledger result.next).waits line ≡ rest line
    pub left : ℕ → List Entry
    pub balance : (line : ℕ)
        → flat_map (λ (reply : Packet). model.rules.pick line (confirmed_in reply)) (answers_in model.rules.prompt m) ++ left line
        ≡ dues.owes line ++ model.rules.pick line (asked_in m)
    pub owes : (line : ℕ) → (phase ≡ shut → ⊥) → (model.view.ledger result.next).owes line ≡ left line

  -- an OPEN for what is not offered is refused by 21 or 22, and the end closes with a CLOSE
  pub record OpenRefused (x y : Side Endpoint) (s : List ℕ) (pipe : Offer) (result : ReceiveOutcome A) : Type 0 where
    pub may : MayAnswer x y s pipe result.number
    pub refused : eqb result.number 0 ≡ false
    pub told : result.told ≡ nothing_told
    pub code : ℕ
    pub small : code < 256 ^ 2
    pub replied : result.replied ≡ bytes_in (Closes code) ∷ []
    pub fine : model.Fine result.next
    pub after : model.view.endpoint result.next ≡ closed x.self

module _ {A O : Type 0} (p : Program A O) (model : Model A) where
  abbrev endpoint : A → Endpoint
  endpoint self = model.view.endpoint self

  abbrev ledger : A → Ledger
  ledger self = model.view.ledger self

  pub record Laws : Type 0 where
    -- a fresh end is fine, and a making that is accepted leaves one
    pub begins : (self : A) (making : Making) → Fresh model.view making self → model.Fine self
    pub makes : (self : A) (making : Making) → (p.make self making).number ≡ 0 → Fresh model.view making (p.make self making).next
    -- a send that is accepted puts a packet on its way, and one that is refused changes nothing
    pub moves : (self : A) (call : Call) (out : O) → model.Fine self → Fits call → (p.send self call out).number ≡ 0
        → SentOn model (endpoint self) (ledger self) call (p.send self call out)
    pub stays : (self : A) (call : Call) (out : O) → model.Fine self → Fits call → ((p.send self call out).number ≡ 0 → ⊥)
        → (p.send self call out).next ≡ self
    -- a packet that an end may take is heard
    pub hears : (makings : Makings) (end : End) (self : A) (m : Packet) (pipe : Offer) (out : O) (phase n : ℕ) (rest : ℕ → List Entry)
        → model.Fine self → 14 ≤ p.room out → MayTake model.rules makings end (endpoint self) (ledger self) m pipe phase n rest
        → HeardOn model (endpoint self) (ledger self) m phase n rest (p.receive self (queued_in m) pipe out)
    -- an OPEN for what is not offered is refused
    pub refuses : (makings : Makings) (x : Side A) (y : Side Endpoint) (e : Endpoint) (asked pipe : Offer) (out : O)
        → model.Fine x.self → 14 ≤ p.room out
        → MayRefuse model.rules makings (viewed_side model.view.endpoint x) y e asked pipe
        → OpenRefused model (viewed_side model.view.endpoint x) y (written e (OPEN asked)) pipe
        (p.receive x.self (queued_in (Called e (OPEN asked))) pipe out)
    -- a message after the own close is passed over, and one with no room for a reply stays where it is
    pub late : (self : A) (m : Queued) (pipe : Offer) (out : O) → model.Fine self → 14 ≤ p.room out → (endpoint self).phase ≡ shut
        → p.receive self m pipe out ≡ ignored 3 self
    pub short : (self : A) (m : Queued) (pipe : Offer) (out : O) → model.Fine self → p.room out < 14
        → p.receive self m pipe out ≡ ignored 2 self
    -- no more are awaited than an end may await, and those of DATA are the ones in its record
    pub bounded : (self : A) → model.Fine self → (line : ℕ) → length ((ledger self).waits line) ≤ capacity
    pub recorded : (self : A) → model.Fine self → reports_in ((ledger self).waits 0) ≡ reports_in (awaited (endpoint self))
    pub lines : Lines model.rules.pick
    -- what no test refuses is sent
    pub sends : (self : A) (call : Call) → model.Fine self → MayCall (endpoint self) call → Fits call
        → (out : O) → length (written (endpoint self) call) ≤ p.room out
        → ((p.send self call out).number ≡ 0) × ((p.send self call out).bytes ≡ written (endpoint self) call)

-- ---- what follows of every program that has the laws

-- two fresh ends have the invariant
abbrev pub StartKeeps : Type 1
StartKeeps =
    (A O : Type 0) (p : Program A O) (model : Model A) → Laws p model → (makings : Makings) (client server : A)
    → Fresh model.view (making_of makings Client) client → Fresh model.view (making_of makings Server) server
    → Invariant model (begun client server)

-- whatever is called and delivered keeps it, and both ends made again where nothing is in transit
abbrev pub StepKeeps : Type 1
StepKeeps =
    (A O : Type 0) (p : Program A O) (model : Model A) → Laws p model → (w : World A) (event : Event O) → EventFits p w event
    → Invariant model w → Invariant model (step p w event)

-- and where it holds the demand does
abbrev pub InvariantHolds : Type 1
InvariantHolds =
    (A O : Type 0) (p : Program A O) (model : Model A) → Laws p model → (w : World A) → Invariant model w → Holds p model.view w

abbrev pub LawsSuffice : Type 1
LawsSuffice = (A O : Type 0) (p : Program A O) (model : Model A) → Laws p model → DemandOf p model.view

-- ---- the tables: one line, on which an end confirms at once and owes nothing

-- a call that they accept
pub record ByTables (e : Endpoint) (call : Call) : Type 0 where
  pub room : ℕ
  pub accepted : (send_of e call room).number ≡ 0

abbrev pub on_records : Model Endpoint
on_records =
    record {
      view = as_records;
      Fine = Sound;
      rules = record { Accepts = ByTables; prompt = λ message. true; pick = λ line entries. entries };
    }

-- the tables have the laws
abbrev pub TablesLaws : Type 0
TablesLaws = Laws tables on_records
