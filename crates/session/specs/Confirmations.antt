-- "ACK-REPLY must equal the oldest entry": the confirmations that an end awaits, and those on their way. This is the part of the invariant that
-- depends on when a message is confirmed.
use Rattle.std.specs.Prelude.{ℕ, ◌+◌, ◌≤◌, ◌≡◌, cond, length}
use mathlib.Core.List.{List, [], ◌∷◌, ◌++◌, flat_map}
use Rattle.control.specs.declared.MessageType.{MessageType}
use Rattle.control.specs.Frame.{type_of}
use Rattle.endpoint.specs.declared.Entry.{Entry}
use Rattle.endpoint.specs.Record.{capacity, reports_in}
use Rattle.sending.specs.Calls.{message_of, type_data_of, ask_of}
use Rattle.session.specs.World.{History, asked_for, Brought}
use Rattle.session.specs.Packets.{Packet, Called, Confirms, Closes, data_in, ready_in}
use Rattle.session.specs.Turns.{Standing, IsOpen}

abbrev pub entry_for : MessageType → ℕ → Entry
entry_for message type-data = record { message = type_of message; type_data = type-data }

-- the confirmation that a packet asks for, and the one that it gives
abbrev pub asked_in : Packet → List Entry
asked_in (Called e call) = cond (ask_of call) (entry_for (message_of call) (type_data_of call) ∷ []) []
asked_in (Confirms message type-data) = []
asked_in (Closes code) = []

abbrev pub confirmed_in : Packet → List Entry
confirmed_in (Called e call) = []
confirmed_in (Confirms message type-data) = entry_for message type-data ∷ []
confirmed_in (Closes code) = []

-- C-14: the DATA that it confirms, by their type-data
abbrev pub confirms_in : Packet → List ℕ
confirms_in m = reports_in (confirmed_in m)

-- what it brings, and what a message brings of which nothing is told
abbrev pub brought_in : Packet → Brought
brought_in m = record { carried = data_in m; readies = ready_in m; confirmed = confirms_in m }

abbrev pub nothing_brought : Brought
nothing_brought = record { carried = []; readies = []; confirmed = [] }

-- on one line, an end at a that wrote p awaits these entries: first those that q confirms, which the one at b wrote, then those that it owes, and
-- then those that p asks for; once the other has closed, the latter two are lost
pub record Awaits (pick : List Entry → List Entry) (a : Standing) (entries : List Entry) (p : List Packet) (b : Standing) (owes : List Entry)
    (q : List Packet) : Type 0 where
  pub rest : List Entry
  pub held : IsOpen a → entries ≡ flat_map (λ (m : Packet). pick (confirmed_in m)) q ++ rest
  pub due : IsOpen b → rest ≡ owes ++ flat_map (λ (m : Packet). pick (asked_in m)) p
  -- and those still to be confirmed are never more than an end may await, whether or not it has closed since
  pub few : IsOpen b → length owes + length (flat_map (λ (m : Packet). pick (asked_in m)) p) ≤ capacity

-- C-14: of an end at a, until it closes: the DATA that it sent with an ask are those whose confirmation it heard, and then those that it awaits;
-- and those that it accepted with an ask are those that it confirmed, and then those that it owes. Those confirmed stay the first of them.
pub record Accounts (a : Standing) (past : History) (awaits owes : List Entry) : Type 0 where
  pub awaited : IsOpen a → asked_for past.sent ≡ past.confirmations_heard ++ reports_in awaits
  pub rest : List ℕ
  pub whole : asked_for past.accepted ≡ past.confirmations ++ rest
  pub owed : IsOpen a → rest ≡ reports_in owes
