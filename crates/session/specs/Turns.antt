-- Both tables are one automaton: the row of a message leads its sender and its hearer from one stage to the next. OPEN, READY and DATA move
-- it, and in each stage one end alone may send them; NOOP and confirmations move nothing; a CLOSE ends it.
-- This is the part of the invariant that the tables decide: where two ends stand, given what is on its way between them.
use Rattle.std.specs.Prelude.{ℕ, ◌≤◌, ◌≡◌, List, [], ◌∷◌}
use Rattle.control.specs.declared.MessageType.{MessageType}
use Rattle.control.specs.declared.MessageType.TheVariants.{Open, Ready, Noop, Data, Close}
use Rattle.endpoint.specs.declared.Endpoint.{Endpoint}
use Rattle.endpoint.specs.Record.{client, server, producer, opening, idle, batch}
use Rattle.table.specs.Table.{To, row_of}
use Rattle.session.specs.World.{End, Client, Server, across, Ending, Going, HeardClose, WroteClose, Side}
use Rattle.session.specs.Packets.{Packet, row_message, type_data_in}
use Rattle.session.specs.Demand.{turn}

abbrev pub role_of : End → ℕ
role_of Client = client
role_of Server = server

-- what a message does to the stage: it moves it, leaves it, or ends it
pub data Kind : Type 0 where
  Moves Stays Ends : Kind

abbrev pub kind_of : MessageType → Kind
kind_of Open = Moves
kind_of Ready = Moves
kind_of Noop = Stays
kind_of Data = Moves
kind_of Close = Ends

-- phase and n, which both ends follow
pub record Stage : Type 0 where
  pub phase : ℕ
  pub n : ℕ

abbrev pub stage_of : Endpoint → Stage
stage_of e = record { phase = e.phase; n = e.n }

-- where an end stands: at a stage, or closed by the CLOSE that it heard, or by one that it wrote
pub data Standing : Type 0 where
  At : Stage → Standing
  ClosedByOther ClosedByItself : Standing

abbrev pub stands : Ending → Endpoint → Standing
stands Going e = At (stage_of e)
stands HeardClose e = ClosedByOther
stands WroteClose e = ClosedByItself

abbrev pub standing : Side Endpoint → Standing
standing x = stands x.past.ending x.self

abbrev pub IsOpen : Standing → Type 0
IsOpen (At s) = Unit
IsOpen ClosedByOther = ⊥
IsOpen ClosedByItself = ⊥

-- an end that has not itself closed hears what comes
abbrev pub Listens : Standing → Type 0
Listens (At s) = Unit
Listens ClosedByOther = Unit
Listens ClosedByItself = ⊥

-- NOOP and confirmations: "phase 2, 3, 4"; CLOSE: "phase 1 to 4"
abbrev pub Active : ℕ → Type 0
Active phase = (idle ≤ phase) × (phase ≤ batch)

abbrev pub Alive : ℕ → Type 0
Alive phase = (opening ≤ phase) × (phase ≤ batch)

-- a queue that moves nothing at this stage
pub data Still (s : Stage) : List Packet → Type 0 where
  nothing : Still s []
  quiet : {m : Packet} {rest : List Packet} → kind_of (row_message m) ≡ Stays → Active s.phase → Still s rest → Still s (m ∷ rest)

module _ (source : End) where
  -- the row of the end whose turn it is; only DATA's asks for the flow, and DATA is the producer's turn
  abbrev pub Leads : Stage → Packet → Stage → Type 0
  Leads s m t =
      row_of (role_of (turn source s.phase)) producer s.phase s.n (row_message m) (type_data_in m) ≡ To t.phase t.n

  -- an end receives: what moves the stage only where it is the other's turn, and after its own close anything
  pub data Hears (end : End) : Standing → Packet → Standing → Type 0 where
    moved : {s t : Stage} {m : Packet} → kind_of (row_message m) ≡ Moves → turn source s.phase ≡ across end → Leads s m t → Hears end (At s) m (At t)
    rested : {s : Stage} {m : Packet} → kind_of (row_message m) ≡ Stays → Active s.phase → Hears end (At s) m (At s)
    closed : {s : Stage} {m : Packet} → kind_of (row_message m) ≡ Ends → Alive s.phase → Hears end (At s) m ClosedByOther
    late : {m : Packet} → Hears end ClosedByItself m ClosedByItself

  -- an end that has received a whole queue
  pub data Drains (end : End) : Standing → List Packet → Standing → Type 0 where
    empty : {a : Standing} → Drains end a [] a
    head : {a b c : Standing} {m : Packet} {rest : List Packet} → Hears end a m b → Drains end b rest c → Drains end a (m ∷ rest) c

  -- an end at a wrote p, and the one across from it at b wrote q: one is ahead of the other, or has written a CLOSE
  pub data Converge (end : End) : Standing → List Packet → Standing → List Packet → Type 0 where
    ahead : {s : Stage} {b : Standing} {p q : List Packet} → Still s q → Drains (across end) b p (At s) → Converge end (At s) p b q
    behind : {a : Standing} {s : Stage} {p q : List Packet} → Still s p → Drains end a q (At s) → Converge end a p (At s) q
    over : {b c : Standing} {p q : List Packet} → (IsOpen c → ⊥) → Drains (across end) b p c → Converge end ClosedByItself p b q
    over_across : {a c : Standing} {p q : List Packet} → (IsOpen c → ⊥) → Drains end a q c → Converge end a p ClosedByItself q
