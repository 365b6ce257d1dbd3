-- The last clause of demand 3, of any program: "While neither has closed and nothing is in transit, one end may still send a message other than
-- NOOP and CLOSE." "the last clause of demand 3 excludes the first again", the program that refuses everything.
use Rattle.std.specs.Prelude.{ℕ, List}
use Rattle.sending.specs.Calls.{Call}
use Rattle.session.specs.World.{End, Client, Server, Makings, making_of, World, Event, AllFit, side, begun, run}
use Rattle.session.specs.Demand.{Fresh, AtRest, MaySend}
use Rattle.entries.specs.Entries.{Entries, Meets, on_blocks, in_blocks}
use Rattle.idle.specs.Idle.{RefusesEverything}

module _ (p : Entries) where
  -- "one end may still send": it is accepted in every output with room for it
  pub record MayStillSend (w : World (List ℕ)) : Type 0 where
    pub end : End
    pub call : Call
    pub may : MaySend (on_blocks p) in_blocks (side w end).self call

  -- for every fresh client and fresh server, and any calls
  abbrev pub GoesOn : Type 0
  GoesOn =
      (makings : Makings) (client server : List ℕ) → Fresh in_blocks (making_of makings Client) client → Fresh in_blocks (making_of makings Server) server
      → (events : List (Event (List ℕ))) → AllFit (on_blocks p) (begun client server) events
      → AtRest (run (on_blocks p) (begun client server) events) → MayStillSend (run (on_blocks p) (begun client server) events)

-- every program that meets the contracts goes on
abbrev pub MeetingGoesOn : Type 0
MeetingGoesOn = (p : Entries) → Meets p → GoesOn p

-- one that refuses everything does not
abbrev pub RefusingStops : Type 0
RefusingStops = (p : Entries) → RefusesEverything p → GoesOn p → ⊥
