-- One end that was just made, that sends, hears or refuses: its part of the invariant holds afterwards. Assumes nothing.
use mathlib.Core.Path.{◌≡◌, refl, sym, ◌∙◌, ap}
use Prim.Native.Nat.{ℕ, ◌≤◌, ◌<◌, ◌^◌}
use mathlib.Core.List.{List, [], flat_map, ◌∷◌, ◌++◌, map, map-append}
use mathlib.Core.Bool.{true, ◌&&◌, Bool, false, cond}
use native.Mathlib.Omega.{arith}
use Rattle.std.specs.Prelude.{Ok}
use Rattle.bytes_be.proofs.Tests.{took_first, clash}
use Rattle.double.specs.Limit.{in_limits, most_limit}
use Rattle.endpoint.specs.declared.Entry.{Entry}
use Rattle.endpoint.specs.Record.{client, server, fresh, good_flow, given_of, fresh_of, opening, batch, shut, closed}
use Rattle.endpoint.proofs.StaysGood.{fresh_good, fresh_sized}
use Rattle.control.specs.declared.MessageType.{MessageType}
use Rattle.control.specs.declared.MessageType.TheVariants.{Noop, Data}
use Rattle.endpoint.specs.declared.Endpoint.{Endpoint}
use Rattle.table.specs.Table.{other}
use Rattle.sending.specs.Calls.{Call, OPEN, READY, DATA, NOOP, CLOSE, message_of, type_data_of}
use Rattle.machine.proofs.Rows.{closed_sound}
use Rattle.machine.specs.Good.{Sound}
use Rattle.machine.specs.Programs.{Making, AsClient, AsServer, fresh_by, Queued, SendOutcome}
use Rattle.session.specs.World.{End, Makings, making_of, no_history, made, Client, Server, across, Ending, Side, ended_by, after_call}
use Rattle.session.specs.World.{Brought, after_message, Going, HeardClose, WroteClose}
use Rattle.session.specs.Packets.{Packet, data_in, ready_in, queued_in, row_message, type_data_in, Called, Confirms, Closes}
use Rattle.session.specs.Turns.{role_of, Standing, nothing, empty, ahead}
use Rattle.session.specs.Demand.{agreed, offers_at, Ledger, nothing_due, Fresh, PhaseFits, producing}
use Rattle.session.specs.Confirmations.{Accounts, Awaits, brought_in, confirms_in, nothing_brought}
use Rattle.session.specs.Invariant.{Within, OffersTaken, Delivers, Knows, Model, flow_at, Settled, OneEnd, Linked, Joint, source, Proper, AllProper}
use Rattle.session.specs.Laws.{answers_in, Comes, limit_after, SentOn}
use Rattle.session.proofs.Table.{Moved, opens, offers, takes, gives, rests, closes, row_moved, moved_low, Landed, goes_on, closes_both}
use Rattle.session.proofs.Table.{moved_lands}
use Rattle.session.proofs.Counts.{sent_counted, heard_counted, closed_counted}
use Rattle.session.proofs.Packets.{is_open_message, OpenOrOther, an_open, another, open_or_other}

-- nothing is awaited, and nothing is on its way

nothing_awaited : (pick : List Entry → List Entry) (a b : Standing) → Awaits pick a [] [] b [] []
unfolding flat_map
nothing_awaited pick a b = record { rest = []; held = λ is_open. refl; due = λ is_open. refl; few = λ is_open. omega arith }

nothing_delivered : {A : Type 0} (carried : Packet → List A) (b : Standing) → Delivers carried [] [] b []
unfolding flat_map
nothing_delivered carried b = record { rest = []; whole = refl; due = λ listens. refl }

nothing-due : (a : Standing) → Accounts a no_history [] []
nothing-due a = record { awaited = λ is_open. refl; rest = []; whole = refl; owed = λ is_open. refl }

nothing_agreed : (end : End) → Within (agreed end no_history) 0 0 fresh 0
nothing_agreed Client = record { in_all = omega arith; in_newest = omega arith }
nothing_agreed Server = record { in_all = omega arith; in_newest = omega arith }

nothing_offered : (end : End) → OffersTaken (agreed end no_history) (offers_at end no_history) fresh 0
nothing_offered Client = record { each = tt; answered = []; open_offer = λ is. absurd (omega (arith, is)); no_offer = λ low other. refl }
nothing_offered Server = record { each = tt; answered = []; open_offer = λ is. absurd (omega (arith, is)); no_offer = λ low other. refl }

-- what making accepts
given_well : (flow limit : ℕ) → given_of flow limit ≡ Ok tt → good_flow flow && in_limits limit ≡ true
unfolding given_of
given_well flow limit given = (took_first (good_flow flow && in_limits limit) (λ same. clash cc) given).0

-- a fresh endpoint is good
pub fresh_sound : (making : Making) → given_of (fresh_by making).flow (fresh_by making).limit ≡ Ok tt → Sound (fresh_by making)
unfolding fresh_of
fresh_sound (AsClient flow limit) given =
    record { sized = fresh_sized client flow limit; is-good = fresh_good client flow limit refl (given_well flow limit given) }
fresh_sound (AsServer flow) given =
    record { sized = fresh_sized server flow most_limit; is-good = fresh_good server flow most_limit refl (given_well flow most_limit given) }

module _ {A : Type 0} (makings : Makings) (model : Model A) where
  fresh_end : (end : End) (limit : ℕ) → Sound (fresh_of (role_of end) (flow_at makings end) limit)
      → (Knows end fresh → Settled makings end (fresh_of (role_of end) (flow_at makings end) limit))
      → OneEnd makings model.rules end (made (fresh_of (role_of end) (flow_at makings end) limit)) []
  unfolding fresh_of
  fresh_end end limit sound settled =
      record {
        sound = sound;
        role = refl;
        flows = refl;
        ends = omega arith;
        queued = refl;
        proper = tt;
        settled = settled;
        counted = record { within = nothing_agreed end; taken = nothing_offered end };
      }

  -- a fresh client and a fresh server
  fresh_linked : given_of (fresh_by (making_of makings Client)).flow (fresh_by (making_of makings Client)).limit ≡ Ok tt
      → given_of (fresh_by (making_of makings Server)).flow (fresh_by (making_of makings Server)).limit ≡ Ok tt
      → Linked makings model.rules Client (made (fresh_by (making_of makings Client))) (made (fresh_by (making_of makings Server))) [] []
      nothing_due nothing_due
  unfolding fresh_of
  fresh_linked given server-given =
      record {
        here = fresh_end Client makings.limit (fresh_sound (making_of makings Client) given) (λ known. record { limited = refl; produced = refl });
        there = fresh_end Server most_limit (fresh_sound (making_of makings Server) server-given) (λ known. absurd (omega (arith, known.0)));
        converge = ahead nothing empty;
        awaits = λ line. nothing_awaited (model.rules.pick line) _ _;
        awaits_across = λ line. nothing_awaited (model.rules.pick line) _ _;
        delivers = nothing_delivered data_in _;
        delivers_across = nothing_delivered data_in _;
        readies = nothing_delivered ready_in _;
        readies_across = nothing_delivered ready_in _;
        confirmations = nothing_delivered confirms_in _;
        confirmations_across = nothing_delivered confirms_in _;
        accounts = nothing-due _;
        accounts_across = nothing-due _;
      }

  pub fresh_joint : (x y : A) → model.Fine x → model.Fine y → Fresh model.view (making_of makings Client) x
      → Fresh model.view (making_of makings Server) y → Joint makings model Client (made x) (made y)
  fresh_joint x y fine fine_across client server =
      record {
        from_here = [];
        from_across = [];
        linked = rw (client.holds, server.holds, client.none_due, server.none_due) (fresh_linked client.given server.given);
        fine = fine;
        fine_across = fine_across;
      }

-- an end that wrote a message by a call; one that was brought this, has ended so and replied these; and one that heard a packet

abbrev pub wrote : End → Side Endpoint → Call → Queued → Endpoint → Side Endpoint
wrote end x call m next = record { self = next; queue = x.queue ++ (m ∷ []); past = after_call end x.past call }

abbrev pub took : End → Side Endpoint → Brought → Ending → List Queued → Endpoint → Side Endpoint
took end x brought ending replies next =
    record { self = next; queue = x.queue ++ replies; past = after_message end x.past brought replies ending }

abbrev pub took_in : (MessageType → Bool) → End → Side Endpoint → Packet → Endpoint → Side Endpoint
took_in prompt end x m next =
    took end x (brought_in m) (ended_by HeardClose (row_message m) Going) (map queued_in (answers_in prompt m)) next

-- an end that is not in phase 5 has not closed
pub is_going : (ending : Ending) (phase : ℕ) → PhaseFits ending phase → phase ≤ batch → ending ≡ Going
is_going Going phase ends low = refl
is_going HeardClose phase ends low = absurd (omega (arith, ends))
is_going WroteClose phase ends low = absurd (omega (arith, ends))

-- where a row leads, the writer and the hearer of its message have closed in phase 5 and nowhere else

landed_ends : (by-close : Ending) → PhaseFits by-close shut → {message : MessageType} {next count : ℕ} → Landed message next count
    → PhaseFits (ended_by by-close message Going) next
landed_ends by-close closing (goes_on stays low) = rw (stays by-close) low
landed_ends by-close closing closes_both = closing

-- a message other than OPEN leads on only an open server
server_knows : {role flow phase n type-data next count : ℕ} {message : MessageType} → is_open_message message ≡ false
    → Moved role flow phase n message type-data next count → (opening ≤ phase) × (phase ≤ batch)
server_knows other (opens role begins) = clash cc
server_knows other (offers differs low high begins) = (low, omega arith)
server_knows other (takes role offered few begins) = (omega arith, omega arith)
server_knows other (gives produces batched begins) = (omega arith, omega arith)
server_knows other (rests low high) = (omega arith, high)
server_knows other (closes low high) = (low, high)

-- and a server sends no OPEN
server_sends : {flow phase n type-data next count : ℕ} {message : MessageType} → Moved (role_of Server) flow phase n message type-data next count
    → is_open_message message ≡ false
server_sends (opens role begins) = absurd (omega (arith, role))
server_sends (offers differs low high begins) = refl
server_sends (takes role offered few begins) = refl
server_sends (gives produces batched begins) = refl
server_sends (rests low high) = refl
server_sends (closes low high) = refl

-- who sends knows the terms
pub sender_knows : (end : End) {flow phase n type-data next count : ℕ} {message : MessageType}
    → Moved (role_of end) flow phase n message type-data next count → Knows end phase
sender_knows Client moves = tt
sender_knows Server moves = server_knows (server_sends moves) moves

-- and so does who hears anything but an OPEN
pub hearer_knows : (end : End) {role flow phase n type-data next count : ℕ} {message : MessageType} → is_open_message message ≡ false
    → Moved role flow phase n message type-data next count → Knows end phase
hearer_knows Client other moves = tt
hearer_knows Server other moves = server_knows other moves

module _ {A : Type 0} (makings : Makings) (model : Model A) where
  pub proper_append : (end : End) (p q : List Packet) → AllProper makings model.rules end p → AllProper makings model.rules end q
      → AllProper makings model.rules end (p ++ q)
  proper_append end [] q front back = back
  proper_append end (m ∷ p) q front back = (front.0, proper_append end p q front.1 back)

  queued_append : (x : Side Endpoint) (p r : List Packet) → x.queue ≡ map queued_in p → x.queue ++ map queued_in r ≡ map queued_in (p ++ r)
  queued_append x p r queued = rw queued (sym (map-append queued_in p r))

  proper_if : (end : End) (m : Packet) (t : Bool) → Proper makings model.rules end m → AllProper makings model.rules end (cond t (m ∷ []) [])
  proper_if end m true proper = (proper, tt)
  proper_if end m false proper = tt

  -- the confirmation of a proper packet is proper
  answers_proper : (prompt : MessageType → Bool) (end : End) (m : Packet) → Proper makings model.rules (across end) m
      → AllProper makings model.rules end (answers_in prompt m)
  answers_proper prompt end (Called e (OPEN asked)) made = tt
  answers_proper prompt end (Called e (READY count)) made = tt
  answers_proper prompt end (Called e (DATA datum)) made = go datum.ask
    where
      go : (ask : Bool) → AllProper makings model.rules end (cond ask (cond (prompt Data) (Confirms Data datum.type-data ∷ []) []) [])
      go true = proper_if end (Confirms Data datum.type-data) (prompt Data) (refl, made.fits)
      go false = tt
  answers_proper prompt end (Called e (NOOP type-data true)) made = proper_if end (Confirms Noop type-data) (prompt Noop) (refl, made.fits)
  answers_proper prompt end (Called e (NOOP type-data false)) made = tt
  answers_proper prompt end (Called e (CLOSE code)) made = tt
  answers_proper prompt end (Confirms message type-data) made = tt
  answers_proper prompt end (Closes code) made = tt

  -- a closed client has its limit and flow still
  closed_settled : (end : End) {e : Endpoint} → Knows end shut → (Knows end e.phase → Settled makings end e) → Settled makings end (closed e)
  unfolding closed
  closed_settled Client still settled = record { limited = (settled tt).limited; produced = (settled tt).produced }
  closed_settled Server still settled = absurd (omega (arith, still.1))

  module _ (end : End) (x : Side Endpoint) (p : List Packet) (here : OneEnd makings model.rules end x p) where
    -- an end that sent a call
    pub sent_sides : (dues : Ledger) (call : Call) (result : SendOutcome A) → (sent : SentOn model x.self dues call result)
        → OneEnd makings model.rules end (wrote end x call (queued_in sent.packet) (model.view.endpoint result.next)) (p ++ (sent.packet ∷ []))
    sent_sides dues call result sent =
        let comes = sent.comes in
        let leads = rw here.role at sent.leads in
        let moves = row_moved (role_of end) x.self.flow x.self.phase x.self.n (message_of call) (type_data_of call) sent.phase
        sent.n leads in
        let knows = sender_knows end moves in
        let going = is_going x.past.ending x.self.phase here.ends (moved_low moves) in
        record {
          sound = comes.sound;
          role = comes.role ∙ here.role;
          flows = comes.flow ∙ here.flows;
          ends = rw (going, comes.phased) (landed_ends WroteClose refl (moved_lands moves));
          queued = queued_append x p (sent.packet ∷ []) here.queued;
          proper = proper_append end p (sent.packet ∷ []) here.proper (sent.proper makings end here.flows (here.settled knows).limited, tt);
          settled =
              λ still. record {
                limited = comes.limited ∙ (here.settled knows).limited;
                produced = ap (producing end) comes.flow ∙ (here.settled knows).produced;
              };
          counted =
              sent_counted end x.self here.sound x.past here.counted (model.view.endpoint result.next) sent.phase sent.n
              comes.phased comes.counted x.self.flow call moves;
        }

    -- an end that has not closed heard a packet, whose row leads to this phase and n; an OPEN only where it is for who produces
    pub heard_sides : (m : Packet) (phase n : ℕ) (next : Endpoint) → Proper makings model.rules (across end) m
        → Moved (role_of (across end)) (other x.self.flow) x.self.phase x.self.n (row_message m) (type_data_in m) phase n
        → (is_open_message (row_message m) ≡ true → producing end x.self.flow ≡ source makings)
        → Comes x.self phase n (limit_after m x.self.limit) next
        → OneEnd makings model.rules end (took_in model.rules.prompt end x m next) (p ++ answers_in model.rules.prompt m)
    heard_sides m phase n next proper moves produces comes =
        record {
          sound = comes.sound;
          role = comes.role ∙ here.role;
          flows = comes.flow ∙ here.flows;
          ends = rw comes.phased (landed_ends HeardClose refl (moved_lands moves));
          queued = queued_append x p (answers_in model.rules.prompt m) here.queued;
          proper = proper_append end p (answers_in model.rules.prompt m) here.proper (answers_proper model.rules.prompt end m proper);
          settled = λ known. record { limited = comes.limited ∙ agreed_on.0; produced = ap (producing end) comes.flow ∙ agreed_on.1 };
          counted =
              heard_counted end x.self here.sound x.past here.counted next phase n comes.phased comes.counted
              (other x.self.flow) m (map queued_in (answers_in model.rules.prompt m)) (ended_by HeardClose (row_message m) Going) moves;
        }
      where
        -- an OPEN brings the terms, and any other packet comes to an end that knows them
        by_sort : (m : Packet) → OpenOrOther m → Proper makings model.rules (across end) m
            → (is_open_message (row_message m) ≡ true → producing end x.self.flow ≡ source makings)
            → (is_open_message (row_message m) ≡ false → Settled makings end x.self)
            → (limit_after m x.self.limit ≡ makings.limit) × (producing end x.self.flow ≡ source makings)
        by_sort _ (an_open e asked) made brings knows = (made.limited, brings refl)
        by_sort _ (another later offered stays) made brings knows = (stays x.self.limit ∙ (knows later).limited, (knows later).produced)

        agreed_on : (limit_after m x.self.limit ≡ makings.limit) × (producing end x.self.flow ≡ source makings)
        agreed_on = by_sort m (open_or_other m) proper produces (λ later. here.settled (hearer_knows end later moves))

    -- an end that refused an OPEN
    pub refused_sides : (code : ℕ) → code < 256 ^ 2
        → OneEnd makings model.rules end (took end x nothing_brought WroteClose (queued_in (Closes code) ∷ []) (closed x.self)) (p ++ (Closes code ∷ []))
    unfolding closed
    refused_sides code few =
        record {
          sound = closed_sound x.self here.sound;
          role = here.role;
          flows = here.flows;
          ends = refl;
          queued = queued_append x p (Closes code ∷ []) here.queued;
          proper = proper_append end p (Closes code ∷ []) here.proper (few, tt);
          settled = λ still. closed_settled end still here.settled;
          counted = closed_counted end x.self x.past here.counted (queued_in (Closes code) ∷ []) WroteClose;
        }
