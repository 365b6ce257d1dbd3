-- The opening that all runs share, and demand 3 at the end of a run. Assumes nothing.
use mathlib.Core.Path.{◌≡◌, refl}
use mathlib.Core.List.{List, [], ◌∷◌}
use mathlib.Core.Bool.{Bool, false}
use Prim.Native.Nat.{ℕ, ◌+◌, ◌<◌, ◌^◌}
use native.Mathlib.Omega.{arith}
use Rattle.endpoint.specs.declared.Endpoint.{Endpoint}
use Rattle.endpoint.specs.Record.{consumer, producer, fresh_client, fresh_of, fresh_server, given_of}
use Rattle.sending.specs.Calls.{Body, Call, OPEN, READY, DATA}
use Rattle.machine.specs.Programs.{Program}
use Rattle.machine.proofs.Computing.{computing}
use Rattle.session.specs.World.{End, Client, Server, Makings, Going, World, Event, sends, receives, AllFit, after_receive, step, run, begun}
use Rattle.session.specs.Demand.{DemandOf, as_records, AtRest, Holds, pipe_a, turn}

-- what a run computes with
unfoldable pub running : Unit {0}
unfolding computing step run after_receive turn
running = tt

-- a limit whose megabytes are two doubles, as it is multiplied or divided
abbrev pub limit : ℕ
limit = 1000007

-- a client that produces and announces this limit, and a server that consumes
abbrev makings : Makings
makings = record { flow = producer; limit = limit; server_flow = consumer }

abbrev pub start : World Endpoint
start = begun (fresh_client producer limit) (fresh_server consumer)

-- room for a message of that limit in two frames, whose count and lengths take 10 bytes
abbrev pub room : ℕ
room = limit + 10

abbrev pub calls : End → Call → Event ℕ
calls end call = sends end call room

-- the pipe `a` is on offer
abbrev pub hears : End → Event ℕ
hears end = receives end pipe_a room

-- a DATA with this body, with an ask or without
abbrev pub report : Bool → Body → Call
report ask body = DATA (record { type-data = 0; ask = ask; body = body })

-- the client opens the pipe, the server makes an offer, and the client agrees to a count; what follows is given
abbrev pub agreeing : ℕ → ℕ → List (Event ℕ) → List (Event ℕ)
agreeing offered count rest =
    calls Client (OPEN pipe_a)
    ∷ hears Server
    ∷ calls Server (READY offered)
    ∷ hears Client
    ∷ calls Client (READY count)
    ∷ hears Server
    ∷ rest

-- two ends that go on, with nothing on its way
pub at_rest : (w : World Endpoint) → w.client.past.ending ≡ Going → w.server.past.ending ≡ Going
    → w.client.queue ≡ [] → w.server.queue ≡ [] → AtRest w
at_rest w client server from-client from-server =
    record { going = elim [ Client ↦ client | Server ↦ server ]; none_coming = elim [ Client ↦ from-client | Server ↦ from-server ] }

-- what demand 3 says of it
pub at_the_end : (p : Program Endpoint ℕ) → DemandOf p as_records → (events : List (Event ℕ)) → ((w : World Endpoint) → AllFit p w events)
    → Holds p as_records (run p start events)
unfolding given_of fresh_of
at_the_end p demand events fit =
    demand makings (fresh_client producer limit) (fresh_server consumer) (record { given = refl; holds = refl; none_due = refl })
    (record { given = refl; holds = refl; none_due = refl }) events (fit start)

-- and of a batch of this count, in which the client has sent one DATA with this body and the server has heard it
pub after_report : (p : Program Endpoint ℕ) → DemandOf p as_records → (count : ℕ) → count < 256 ^ 2 → (body : Body)
    → Holds p as_records (run p start (agreeing count count (calls Client (report false body) ∷ hears Server ∷ [])))
after_report p demand count few body = at_the_end p demand (agreeing count count (calls Client (report false body) ∷ hears Server ∷ [])) (λ w. omega arith)
