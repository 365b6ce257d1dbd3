-- Four sessions, by computing them on their bytes: the theorem does not speak of nothing. Assumes nothing.
use mathlib.Core.Path.{◌≡◌, refl}
use mathlib.Core.List.{List, [], ◌∷◌, ◌++◌}
use Prim.Native.Nat.{ℕ}
use mathlib.Core.Bool.{Bool, true, false}
use lib.ListN.{length}
use Rattle.open.specs.Offer.{no_offer}
use Rattle.endpoint.specs.declared.Endpoint.{Endpoint}
use Rattle.endpoint.specs.Record.{fresh_client, fresh_server}
use Rattle.sending.specs.Calls.{Body, Missing, Given, Datum, OPEN, READY, DATA, NOOP, CLOSE}
use Rattle.machine.specs.Programs.{tables}
use Rattle.machine.proofs.Computing.{computing}
use Rattle.session.specs.World.{Ending, Side, World, Event, begun, after_receive, step, run, Client, Server, Going, HeardClose, WroteClose}
use Rattle.session.specs.World.{sends, receives, makes}
use Rattle.session.specs.Demand.{pipe_a}

-- what is looked at afterwards: data sent by the client and by the server, data accepted by each, batches agreed, how each end ended, and how many
-- messages are on their way to the server and to the client
data Summary : Type 0 where
  summed : List Datum → List Datum → List Datum → List Datum → List ℕ → Ending → Ending → ℕ → ℕ → Summary

abbrev summary : World Endpoint → Summary
summary w =
    summed w.client.past.sent w.server.past.sent w.client.past.accepted w.server.past.accepted w.client.past.readies
    w.client.past.ending w.server.past.ending (length w.client.queue) (length w.server.queue)

-- a client of this flow and limit, and a server of this flow
abbrev start : ℕ → ℕ → ℕ → World Endpoint
start flow limit server_flow = begun (fresh_client flow limit) (fresh_server server_flow)

abbrev datum : ℕ → Bool → Body → Datum
datum type-data ask body = record { type-data = type-data; ask = ask; body = body }

-- the client opens and the server hears that
opens : List (Event ℕ)
opens = sends Client (OPEN pipe_a) 4200 ∷ receives Server pipe_a 14 ∷ []

-- the client produces: of an offer of five it takes two, asks for a confirmation of the second, which has no body, and is refused a third; one
-- receive has no room for a reply; the server closes, and the client's NOOP comes after that
client_produces : List (Event ℕ)
client_produces =
    opens
    ++ (sends Server (READY 5) 14 ∷ receives Client no_offer 14 ∷ sends Client (READY 2) 14 ∷ [])
    ++ (sends Client (DATA (datum 1 false (Given (10 ∷ [])))) 20 ∷ sends Client (DATA (datum 2 true Missing)) 14 ∷ sends Client (DATA (datum 3 false (Given []))) 20 ∷ [])
    ++ (receives Server no_offer 14 ∷ receives Server no_offer 13 ∷ receives Server no_offer 14 ∷ receives Server no_offer 14 ∷ [])
    ++ (sends Client (NOOP 9 true) 14 ∷ sends Server (CLOSE 0) 14 ∷ [])
    ++ (receives Server no_offer 14 ∷ receives Client no_offer 14 ∷ receives Client no_offer 14 ∷ [])

-- the server produces: one batch of one, the confirmation of whose DATA is still on its way
server_produces : List (Event ℕ)
server_produces =
    opens
    ++ (sends Server (READY 0) 14 ∷ sends Server (READY 1) 14 ∷ receives Client no_offer 14 ∷ receives Client no_offer 14 ∷ [])
    ++ (sends Client (READY 1) 14 ∷ receives Server no_offer 14 ∷ sends Server (DATA (datum 7 true (Given []))) 18 ∷ receives Client no_offer 14 ∷ [])

-- both produce, and the OPEN is refused; once its CLOSE is heard, both are made again, and the server sends READY
both_produce : List (Event ℕ)
both_produce =
    opens
    ++ (receives Client no_offer 14 ∷ makes (record { flow = 1; limit = 50000000; server_flow = 2 }) ∷ [])
    ++ opens
    ++ (sends Server (READY 3) 14 ∷ [])

abbrev pages : List Datum
pages = datum 1 false (Given (10 ∷ [])) ∷ datum 2 true Missing ∷ []

abbrev report : List Datum
report = datum 7 true (Given []) ∷ []

sessions :
    summary (run tables (start 1 1000000 2) client_produces)
    ∷ summary (run tables (start 2 50000000 1) server_produces)
    ∷ summary (run tables (start 1 50000000 1) both_produce)
    ∷ []
    ≡ summed pages [] [] pages (2 ∷ []) HeardClose WroteClose 0 0
    ∷ summed [] report report [] (1 ∷ []) Going Going 1 0
    ∷ summed [] [] [] [] [] Going Going 0 1
    ∷ []
unfolding computing after_receive step run opens client_produces server_produces both_produce
sessions = refl

-- C-14, at a server that produces: two DATA and a NOOP between them ask, and their confirmations are heard one by one

asking : List (Event ℕ)
asking =
    opens
    ++ (sends Server (READY 2) 14 ∷ receives Client no_offer 14 ∷ sends Client (READY 2) 14 ∷ receives Server no_offer 14 ∷ [])
    ++ (sends Server (DATA (datum 7 true Missing)) 14 ∷ sends Server (NOOP 5 true) 14 ∷ sends Server (DATA (datum 8 true Missing)) 14 ∷ [])

confirming : List (Event ℕ)
confirming = receives Client no_offer 14 ∷ receives Server no_offer 14 ∷ []

-- the DATA confirmed to the server, how many reports are unconfirmed, and how many confirmations are awaited
data Account : Type 0 where
  account : List ℕ → ℕ → ℕ → Account

abbrev account_after : List (Event ℕ) → Account
account_after events =
    let server : Side Endpoint = (run tables (start 2 50000000 1) events).server in
    account server.past.confirmations_heard server.self.unconfirmed server.self.w

accounts :
    account_after asking
    ∷ account_after (asking ++ confirming)
    ∷ account_after (asking ++ confirming ++ confirming)
    ∷ account_after (asking ++ confirming ++ confirming ++ confirming)
    ∷ []
    ≡ account [] 2 3
    ∷ account (7 ∷ []) 1 2
    ∷ account (7 ∷ []) 1 1
    ∷ account (7 ∷ 8 ∷ []) 0 0
    ∷ []
unfolding computing after_receive step run opens asking confirming
accounts = refl
