-- A run of one end: whatever is done to it, in any order, and what comes of each act.
use Rattle.std.specs.Prelude.{ℕ, List, [], ◌∷◌, ◌++◌, map, Bool, cond, ◌||◌, eqb}
use Rattle.open.specs.Offer.{Offer}
use Rattle.sending.specs.Calls.{Call}
use Rattle.sending.specs.Options.{how_of}
use Rattle.machine.specs.Programs.{Making, Queued, Told, nothing_told, Program}

-- an end is made, sends, or receives a message with this offer
pub data Act (O : Type 0) : Type 0 where
  Makes : Making → Act O
  Sends : Call → O → Act O
  Receives : Queued → Offer → O → Act O

-- what comes of an act: its number, what is told, the messages that it wrote, and the state afterwards
pub record Done (A : Type 0) : Type 0 where
  pub number : ℕ
  pub told : Told
  pub wrote : List Queued
  pub next : A

-- a reply was given no options
abbrev pub as_reply : List ℕ → Queued
as_reply bytes = record { bytes = bytes; how = 0 }

-- a receive that answers 1 or 2 has not taken the message, and one that answers 3 has passed it over
abbrev pub is_kept : ℕ → Bool
is_kept number = eqb number 1 || eqb number 2

module _ {A O : Type 0} (p : Program A O) where
  abbrev pub done_by : A → Act O → Done A
  done_by self (Makes making) =
      record { number = (p.make self making).number; told = nothing_told; wrote = []; next = (p.make self making).next }
  done_by self (Sends call out) =
      record {
        number = (p.send self call out).number;
        told = nothing_told;
        wrote = cond (eqb (p.send self call out).number 0) (record { bytes = (p.send self call out).bytes; how = how_of call } ∷ []) [];
        next = (p.send self call out).next;
      }
  done_by self (Receives m pipe out) =
      record {
        number = (p.receive self m pipe out).number;
        told = (p.receive self m pipe out).told;
        wrote = map as_reply (p.receive self m pipe out).replied;
        next = (p.receive self m pipe out).next;
      }

  -- the message that an act takes
  abbrev pub taken_by : A → Act O → List Queued
  taken_by self (Makes making) = []
  taken_by self (Sends call out) = []
  taken_by self (Receives m pipe out) = cond (is_kept (p.receive self m pipe out).number) [] (m ∷ [])

  -- the state that these acts leave
  abbrev pub left_in : A → List (Act O) → A
  left_in self [] = self
  left_in self (act ∷ rest) = left_in (done_by self act).next rest

  -- what is gathered of each of them, in their order: what came of it, the messages that it wrote, and those that it took
  abbrev pub gathered_in : {B : Type 0} → (A → Act O → List B) → A → List (Act O) → List B
  gathered_in each self [] = []
  gathered_in each self (act ∷ rest) = each self act ++ gathered_in each (done_by self act).next rest

  abbrev pub done_in : A → List (Act O) → List (Done A)
  done_in self acts = gathered_in (λ before act. done_by before act ∷ []) self acts

  abbrev pub wrote_in : A → List (Act O) → List Queued
  wrote_in self acts = gathered_in (λ before act. (done_by before act).wrote) self acts

  abbrev pub taken_in : A → List (Act O) → List Queued
  taken_in self acts = gathered_in taken_by self acts
