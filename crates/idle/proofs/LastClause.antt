-- Every program that meets the contracts keeps the last clause of demand 3, and one that refuses everything does not. Assumes nothing.
use mathlib.Core.Path.{refl}
use mathlib.Core.List.{List, []}
use Prim.Native.Nat.{ℕ}
use native.Mathlib.Omega.{arith}
use lib.ListN.{length, length-replicate, replicate}
use Rattle.double.specs.Limit.{most_limit}
use Rattle.endpoint.specs.declared.Endpoint.{Endpoint}
use Rattle.endpoint.specs.Record.{consumer, producer}
use Rattle.endpoint.specs.Block.{load_of}
use Rattle.sending.specs.Calls.{written}
use Rattle.machine.specs.Programs.{AsClient, AsServer}
use Rattle.session.specs.World.{Client, Server, Makings, side, begun, run}
use Rattle.session.specs.Demand.{AtRest, next_call, next_end}
use Rattle.entries.specs.Entries.{on_blocks}
use Rattle.entries.proofs.Entries.{demand_on_blocks, made_are_fresh}
use Rattle.idle.specs.LastClause.{MeetingGoesOn, RefusingStops}
use Rattle.idle.proofs.Witnesses.{made_client, made_server, client_made, server_made}

pub meeting_goes_on : MeetingGoesOn
meeting_goes_on p meets makings client server fresh server-fresh events fit rest =
    let holds = demand_on_blocks p meets makings client server fresh server-fresh events fit in
    let now : Endpoint = load_of (run (on_blocks p) (begun client server) events).client.self in
    record { end = next_end now; call = next_call now; may = holds.may_send rest }

-- two ends that were just made are at rest
made_rests : (client server : List ℕ) → AtRest (begun client server)
made_rests client server = record { going = elim [ Client ↦ refl | Server ↦ refl ]; none_coming = elim [ Client ↦ refl | Server ↦ refl ] }

pub refusing_stops : RefusingStops
unfolding run
refusing_stops p refuses goes =
    let makings : Makings = record { flow = producer; limit = most_limit; server_flow = consumer } in
    let fresh = made_are_fresh (AsClient producer most_limit) _ made_client client_made in
    let server-fresh = made_are_fresh (AsServer consumer) _ made_server server_made in
    let still = goes makings made_client made_server fresh server-fresh [] tt (made_rests made_client made_server) in
    let room = length (written (load_of (side (begun made_client made_server) still.end).self) still.call) in
    refuses.refuses_calls _ _ _ (still.may.accepted (replicate room 0) (omega (arith, length-replicate {A = ℕ} room 0))).0
