-- Two ends, of which one receives: a packet that is heard, an OPEN that is refused, and a packet that comes after an own close, keep what links
-- them. Assumes nothing.
use mathlib.Core.Path.{◌≡◌, refl, sym, ◌∙◌, ap}
use Prim.Native.Nat.{ℕ, ◌+◌, ◌≤◌, ◌<◌, ◌^◌}
use mathlib.Core.List.{List, [], ◌∷◌, ◌++◌, map, append_assoc, append-nil, flat_map}
use mathlib.Core.Bool.{Bool, true, false, cond, ◌&&◌, ◌||◌}
use native.Mathlib.Omega.{arith}
use lib.Dec.{eqb}
use lib.ListN.{length, length-append}
use borrow.Author.Tests.{eqb-true}
use Rattle.bytes_be.specs.Part.{same}
use Rattle.bytes_be.proofs.Sameness.{equal_same}
use Rattle.bytes_be.proofs.Tests.{both_true, clash}
use Rattle.control.specs.declared.MessageType.{MessageType}
use Rattle.control.specs.declared.MessageType.TheVariants.{Open, Ready, Noop, Data, Close}
use Rattle.open.specs.Offer.{Offer}
use Rattle.receiving.specs.Hearing.{confirmable}
use Rattle.open.specs.Open.{offered_socket}
use Rattle.open_write.specs.Frame.{socket_of}
use Rattle.endpoint.specs.declared.Endpoint.{Endpoint}
use Rattle.endpoint.specs.declared.Entry.{Entry}
use Rattle.endpoint.specs.Record.{producer, idle, batch, capacity, reports_in, shut, closed}
use Rattle.endpoint.proofs.Reports.{reports_append}
use Rattle.table.specs.Table.{To, other, row_of}
use Rattle.sending.specs.Calls.{Call, OPEN, READY, DATA, NOOP, CLOSE, ask_of, message_of, type_data_of}
use Rattle.machine.specs.Programs.{Queued, nothing_told, ReceiveOutcome}
use Rattle.machine.specs.Runs.{as_reply}
use Rattle.session.specs.World.{End, across, Makings, Ending, Side, data_told, ready_told, asked_for, confirmed_told, brought_by, confirms_by}
use Rattle.session.specs.World.{ended_by, ended_after, with_queue, viewed_side, Client}
use Rattle.session.specs.World.{Server, Going, HeardClose, WroteClose}
use Rattle.session.specs.Packets.{Packet, queued_in, bytes_in, told_in, row_message, type_data_in, data_in, ready_in, Called, Confirms, Closes}
use Rattle.session.specs.Turns.{role_of, Kind, kind_of, Stage, stage_of, Standing, stands, standing, IsOpen, Hears, Converge}
use Rattle.session.specs.Turns.{Moves, Stays, Ends, At, ClosedByItself, moved, rested, closed as Hears·closed}
use Rattle.session.specs.Demand.{Ledger, producing, turn}
use Rattle.session.specs.Confirmations.{asked_in, brought_in, confirmed_in, confirms_in, nothing_brought}
use Rattle.session.specs.Invariant.{Knows, Model, source, Proper, OneEnd, Linked}
use Rattle.session.proofs.Table.{Sends, calms, Moved, opens, gives, row_moved, row_hears, other_role, phase_in, n_in, leads_alive, leads_active}
use Rattle.session.proofs.Turns.{across_differs, sends_converge, refuses_converge}
use Rattle.session.proofs.Streams.{hears_awaits, gone_awaits, across_hears_awaits, across_gone_awaits, writes_delivers, hears_delivers}
use Rattle.session.proofs.Streams.{gone_delivers, replies_delivers, asked_reports, confirmed_reports, hears_accounts, gone_accounts}
use Rattle.session.specs.Laws.{Lines, answers_in, MayTake, offered_in, HeardOn}
use Rattle.session.proofs.Packets.{is_open_message, OpenOrOther, an_open, another, open_or_other}
use Rattle.session.proofs.Ends.{took, took_in, hearer_knows, heard_sides, refused_sides}

-- where an end stands that heard a message

abbrev ending_of : Ending → Kind → Ending
ending_of by-close Moves = Going
ending_of by-close Stays = Going
ending_of by-close Ends = by-close

ended_kind : (by-close : Ending) (message : MessageType) → ended_by by-close message Going ≡ ending_of by-close (kind_of message)
ended_kind by-close Open = refl
ended_kind by-close Ready = refl
ended_kind by-close Noop = refl
ended_kind by-close Data = refl
ended_kind by-close Close = refl

heard_ending : (message : MessageType) {kind : Kind} → kind_of message ≡ kind → ended_by HeardClose message Going ≡ ending_of HeardClose kind
heard_ending message same = ended_kind HeardClose message ∙ ap (ending_of HeardClose) same

hearer_stands : (from end : End) (s : Stage) (m : Packet) (a : Standing) (e : Endpoint) → Hears from end (At s) m a → e.phase ≡ phase_in a
    → e.n ≡ n_in a → stands (ended_by HeardClose (row_message m) Going) e ≡ a
hearer_stands from end s m (At t) e (moved moving theirs leads) phased counted =
    ap (λ (ending : Ending). stands ending e) (heard_ending (row_message m) moving) ∙ rw (phased, counted) refl
hearer_stands from end s m _ e (rested still active) phased counted =
    ap (λ (ending : Ending). stands ending e) (heard_ending (row_message m) still) ∙ rw (phased, counted) refl
hearer_stands from end s m _ e (Hears·closed closing alive) phased counted =
    ap (λ (ending : Ending). stands ending e) (heard_ending (row_message m) closing)

-- an end that is still open is not in phase 5
hearer_low : (from end : End) (s : Stage) (m : Packet) (a : Standing) → Hears from end (At s) m a → IsOpen a → phase_in a ≡ shut → ⊥
hearer_low from end s m (At t) (moved moving theirs leads) is_open is-shut = omega (arith, (leads_alive from s m t moving leads).1, is-shut)
hearer_low from end s m _ (rested still active) is_open is-shut = omega (arith, active.1, is-shut)
hearer_low from end s m _ (Hears·closed closing alive) is_open is-shut = is_open

-- what the confirmation of a packet asks for, confirms and carries, and that it is no READY

answers_none : {A : Type 0} (prompt : MessageType → Bool) (taken : Packet → List A)
    → ((message : MessageType) (type-data : ℕ) → taken (Confirms message type-data) ≡ [])
    → (m : Packet) → flat_map taken (answers_in prompt m) ≡ []
unfolding flat_map
answers_none prompt taken none (Called e call) = go (ask_of call) (prompt (message_of call))
  where
    go : (ask at_once : Bool) → flat_map taken (cond ask (cond at_once (Confirms (message_of call) (type_data_of call) ∷ []) []) []) ≡ []
    go true true = rw (none (message_of call) (type_data_of call)) refl
    go true false = refl
    go false at_once = refl
answers_none prompt taken none (Confirms message type-data) = refl
answers_none prompt taken none (Closes code) = refl

-- an end that replies to DATA that asks with its confirmation confirms it
answers_confirm : (prompt : MessageType → Bool) (m : Packet)
    → confirms_by (brought_in m) (map queued_in (answers_in prompt m)) ≡ flat_map confirms_in (answers_in prompt m)
unfolding flat_map
answers_confirm prompt (Called e (OPEN asked)) = refl
answers_confirm prompt (Called e (READY count)) = refl
answers_confirm prompt (Called e (DATA datum)) = go datum.ask (prompt Data)
  where
    replies : Bool → Bool → List Packet
    replies ask at_once = cond ask (cond at_once (Confirms Data datum.type-data ∷ []) []) []

    go : (ask at_once : Bool)
        → confirms_by (brought_in (Called e (DATA (record { type-data = datum.type-data; ask = ask; body = datum.body })))) (map queued_in (replies ask at_once))
        ≡ flat_map confirms_in (replies ask at_once)
    go true true = rw (equal_same (bytes_in (Confirms Data datum.type-data))) refl
    go true false = refl
    go false at_once = refl
answers_confirm prompt (Called e (NOOP type-data ask)) = go ask (prompt Noop)
  where
    replies : Bool → Bool → List Packet
    replies asks at_once = cond asks (cond at_once (Confirms Noop type-data ∷ []) []) []

    go : (asks at_once : Bool) → confirms_by (brought_in (Called e (NOOP type-data ask))) (map queued_in (replies asks at_once))
        ≡ flat_map confirms_in (replies asks at_once)
    go true true = refl
    go true false = refl
    go false at_once = refl
answers_confirm prompt (Called e (CLOSE code)) = refl
answers_confirm prompt (Confirms message type-data) = refl
answers_confirm prompt (Closes code) = refl

-- DATA moves on only in phase 4
data_active : {role flow phase n type-data next count : ℕ} → Moved role flow phase n Data type-data next count → (idle ≤ phase) × (phase ≤ batch)
data_active (gives produces batching begins) = (omega arith, omega arith)

-- a packet that is sent or not
converge_if : (from end : End) {a b : Standing} {p q : List Packet} {m : Packet} (t : Bool) → Sends from end a m a → Converge from end a p b q
    → Converge from end a (p ++ cond t (m ∷ []) []) b q
converge_if from end true sends converge = sends_converge from end converge sends
converge_if from end false sends converge = rw append-nil converge

-- the confirmation of a packet is a quiet message
answers_converge : (prompt : MessageType → Bool) (from end : End) {s : Stage} {a b : Standing} {p q : List Packet} (m : Packet)
    → Hears from end (At s) m a → Converge from end a p b q → Converge from end a (p ++ answers_in prompt m) b q
answers_converge prompt from end (Called e (OPEN asked)) hears converge = rw append-nil converge
answers_converge prompt from end (Called e (READY count)) hears converge = rw append-nil converge
answers_converge prompt from end {s} {b = b} {p = p} {q = q} (Called e (DATA datum)) (moved {t = t} moving theirs leads) converge = go datum.ask
  where
    move : Moved (role_of (turn from s.phase)) producer s.phase s.n Data datum.type-data t.phase t.n
    move = row_moved (role_of (turn from s.phase)) producer s.phase s.n Data datum.type-data t.phase t.n leads

    go : (ask : Bool) → Converge from end (At t) (p ++ cond ask (cond (prompt Data) (Confirms Data datum.type-data ∷ []) []) []) b q
    go true =
        converge_if from end (prompt Data) (calms refl (leads_active from s (Called e (DATA datum)) t moving leads (data_active move))) converge
    go false = rw append-nil converge
answers_converge prompt from end (Called e (DATA datum)) (rested still active) converge = clash cc
answers_converge prompt from end (Called e (DATA datum)) (Hears·closed closing alive) converge = clash cc
answers_converge prompt from end (Called e (NOOP type-data true)) (moved moving theirs leads) converge = clash cc
answers_converge prompt from end (Called e (NOOP type-data true)) (rested still active) converge =
    converge_if from end (prompt Noop) (calms refl active) converge
answers_converge prompt from end (Called e (NOOP type-data true)) (Hears·closed closing alive) converge = clash cc
answers_converge prompt from end (Called e (NOOP type-data false)) hears converge = rw append-nil converge
answers_converge prompt from end (Called e (CLOSE code)) hears converge = rw append-nil converge
answers_converge prompt from end (Confirms message type-data) hears converge = rw append-nil converge
answers_converge prompt from end (Closes code) hears converge = rw append-nil converge

-- who hears data is of the other flow than who produces
hearer_consumes : (end : End) (own : ℕ) → producing end own ≡ across end → other own ≡ producer
hearer_consumes end own theirs = go (eqb own producer) theirs
  where
    go : (t : Bool) → cond t end (across end) ≡ across end → cond t 2 1 ≡ producer
    go true same = absurd (across_differs end (sym same))
    go false same = refl

batch_known : (end : End) (phase : ℕ) → phase ≡ batch → Knows end phase
batch_known Client phase batching = tt
batch_known Server phase batching = (omega arith, omega arith)

-- the server that accepts an OPEN is of the other flow
offered_source : (own theirs : ℕ) → socket_of theirs ≡ offered_socket own → producing Server own ≡ producing Client theirs
offered_source own theirs sockets = go (eqb own producer) (eqb theirs producer) sockets
  where
    go : (t u : Bool) → cond {A = ℕ} u 1 2 ≡ cond t 2 1 → cond t Server Client ≡ cond u Client Server
    go true true sockets = absurd (omega (arith, sockets))
    go true false sockets = refl
    go false true sockets = refl
    go false false sockets = absurd (omega (arith, sockets))

pub clients_open : {flow phase n type-data next count : ℕ} → Moved (role_of Server) flow phase n Open type-data next count → ⊥
clients_open (opens role begins) = omega (arith, role)

module _ {A : Type 0} (makings : Makings) (model : Model A) where
  -- and so agrees on who produces
  open_source : (end : End) (r : Endpoint) (m : Packet) → OpenOrOther m → (pipe : Offer) {seen phase n next count : ℕ}
      → Proper makings model.rules (across end) m → Moved (role_of (across end)) seen phase n (row_message m) (type_data_in m) next count
      → offered_in m r pipe ≡ true → is_open_message (row_message m) ≡ true → producing end r.flow ≡ source makings
  open_source Client r _ (an_open e asked) pipe made moves offers is = absurd (clients_open moves)
  open_source Server r _ (an_open e asked) pipe made moves offers is =
      let all = both_true (same asked.name pipe.name && eqb (socket_of e.flow) (offered_socket r.flow))
      (eqb (length asked.format) 0 || same asked.format pipe.format) offers in
      let named = both_true (same asked.name pipe.name) (eqb (socket_of e.flow) (offered_socket r.flow)) all.0 in
      offered_source r.flow e.flow (eqb-true _ _ named.1) ∙ ap (producing Client) made.flows
  open_source end r m (another later always stays) pipe made moves offers is = clash cc

  module _ (lines : Lines model.rules.pick) (end : End) (x y : Side Endpoint) (p q : List Packet) (m : Packet) (dues dues-across : Ledger)
      (linked : Linked makings model.rules end x y p (m ∷ q) dues dues-across) where
    abbrev e : Endpoint
    e = x.self

    abbrev stage : Stage
    stage = stage_of e

    -- the writer of a packet that was received
    left_sides : OneEnd makings model.rules (across end) (with_queue y (map queued_in q)) q
    left_sides =
        let there = linked.there in
        record {
          sound = there.sound;
          role = there.role;
          flows = there.flows;
          ends = there.ends;
          queued = refl;
          proper = there.proper.1;
          settled = there.settled;
          counted = there.counted;
        }

    module _ (going : x.past.ending ≡ Going) where
      was : standing x ≡ At stage
      was = ap (λ (ending : Ending). stands ending e) going

      -- the entries awaited, but for those that the packet confirms
      abbrev pub later : ℕ → List Entry
      later line = flat_map (λ (packet : Packet). model.rules.pick line (confirmed_in packet)) q ++ (linked.awaits line).rest

      awaited_first : (line : ℕ) → dues.waits line ≡ model.rules.pick line (confirmed_in m) ++ later line
      unfolding flat_map
      awaited_first line =
          (linked.awaits line).held (rw was tt)
          ∙ append_assoc (model.rules.pick line (confirmed_in m)) (flat_map (λ (packet : Packet). model.rules.pick line (confirmed_in packet)) q)
          (linked.awaits line).rest

      few_owed : (line : ℕ) → length (dues.owes line) + length (model.rules.pick line (asked_in m)) ≤ capacity
      unfolding flat_map
      few_owed line =
          let asked : Packet → List Entry = λ packet. model.rules.pick line (asked_in packet) in
          omega (arith, (linked.awaits_across line).few (rw was tt), length-append (model.rules.pick line (asked_in m)) (flat_map asked q))

      module _ (a : Standing) (hears : Hears (source makings) end (At stage) m a) where
        pub leads : row_of (other (role_of end)) (other e.flow) e.phase e.n (row_message m) (type_data_in m) ≡ To (phase_in a) (n_in a)
        leads =
            row_hears (source makings) end e.flow stage m a hears
            (λ theirs batching. hearer_consumes end e.flow ((linked.here.settled (batch_known end e.phase batching)).produced ∙ theirs))

        pub moves : Moved (role_of (across end)) (other e.flow) e.phase e.n (row_message m) (type_data_in m) (phase_in a) (n_in a)
        moves =
            row_moved (role_of (across end)) (other e.flow) e.phase e.n (row_message m) (type_data_in m) (phase_in a) (n_in a)
            (rw (other_role end) leads)

        data_limit : row_message m ≡ Data → e.limit ≡ makings.limit
        data_limit bears = (linked.here.settled (hearer_knows end (ap is_open_message bears) moves)).limited

        pub head_may : (pipe : Offer) → offered_in m e pipe ≡ true
            → MayTake model.rules makings end e dues m pipe (phase_in a) (n_in a) later
        head_may pipe offers =
            record {
              sound = linked.here.sound;
              proper = linked.there.proper.0;
              leads = rw linked.here.role leads;
              limited = data_limit;
              offered = offers;
              awaits = awaited_first;
              few = few_owed;
            }

        -- what is confirmed of DATA and what is owed of it are what was owed and what the packet asks for
        balanced : (result : ReceiveOutcome A) → (taken : HeardOn model e dues m (phase_in a) (n_in a) later result)
            → confirms_by (brought_in m) (map queued_in (answers_in model.rules.prompt m)) ++ reports_in (taken.left 0)
            ≡ reports_in (dues.owes 0) ++ asked_for (data_in m)
        balanced result taken =
            let answers : List Packet = answers_in model.rules.prompt m in
            let confirmed : List Entry = flat_map (λ (packet : Packet). model.rules.pick 0 (confirmed_in packet)) answers in
            ap (λ (l : List ℕ). l ++ reports_in (taken.left 0))
            (answers_confirm model.rules.prompt m ∙ sym (confirmed_reports model.rules.pick lines answers))
            ∙ sym (reports_append confirmed (taken.left 0))
            ∙ ap reports_in (taken.balance 0)
            ∙ reports_append (dues.owes 0) (model.rules.pick 0 (asked_in m))
            ∙ ap (λ (l : List ℕ). reports_in (dues.owes 0) ++ l) (lines.reports (asked_in m) ∙ asked_reports m)

        -- a packet that was heard
        pub heard_linked : (result : ReceiveOutcome A) → HeardOn model e dues m (phase_in a) (n_in a) later result
            → (pipe : Offer) → offered_in m e pipe ≡ true → Converge (source makings) end a p (standing y) q
            → Linked makings model.rules end (took_in model.rules.prompt end x m (model.view.endpoint result.next)) (with_queue y (map queued_in q))
            (p ++ answers_in model.rules.prompt m) q (model.view.ledger result.next) dues-across
        heard_linked result taken pipe offers converge =
            let comes = taken.comes in
            let next : Endpoint = model.view.endpoint result.next in
            let answers : List Packet = answers_in model.rules.prompt m in
            let produces = open_source end e m (open_or_other m) pipe linked.there.proper.0 moves offers in
            let after = hearer_stands (source makings) end stage m a next hears comes.phased comes.counted in
            record {
              here = heard_sides makings model end x p linked.here m (phase_in a) (n_in a) next linked.there.proper.0 moves produces comes;
              there = left_sides;
              converge = rw after (answers_converge model.rules.prompt (source makings) end m hears converge);
              awaits = λ line.
                  let asks : Packet → List Entry = λ packet. model.rules.pick line (asked_in packet) in
                  rw after
                  (hears_awaits (model.rules.pick line) (standing x) a m answers _
                  (answers_none model.rules.prompt asks (λ message type-data. lines.none line) m) (linked.awaits line)
                  (λ is_open. taken.awaits line (hearer_low (source makings) end stage m a hears is_open)));
              awaits_across = λ line.
                  rw after
                  (across_hears_awaits (model.rules.pick line) (standing y) a stage m answers (taken.left line) _ (taken.balance line)
                  (λ is_open. taken.owes line (hearer_low (source makings) end stage m a hears is_open))
                  (rw was at (linked.awaits_across line)));
              delivers =
                  writes_delivers data_in (standing y) answers (answers_none model.rules.prompt data_in (λ message type-data. refl) m)
                  linked.delivers;
              delivers_across = rw after (hears_delivers data_in stage a m (rw was at linked.delivers_across));
              readies =
                  writes_delivers ready_in (standing y) answers (answers_none model.rules.prompt ready_in (λ message type-data. refl) m)
                  linked.readies;
              readies_across = rw after (hears_delivers ready_in stage a m (rw was at linked.readies_across));
              confirmations =
                  rw (answers_confirm model.rules.prompt m) (replies_delivers confirms_in (standing y) answers linked.confirmations);
              confirmations_across = rw after (hears_delivers confirms_in stage a m (rw was at linked.confirmations_across));
              accounts =
                  rw after
                  (hears_accounts stage a end (brought_in m) (map queued_in answers) _ (model.rules.pick 0 (confirmed_in m)) (later 0) _ (taken.left 0) _
                  (awaited_first 0) (lines.reports (confirmed_in m))
                  (λ is_open. taken.awaits 0 (hearer_low (source makings) end stage m a hears is_open)) (balanced result taken)
                  (λ is_open. taken.owes 0 (hearer_low (source makings) end stage m a hears is_open)) (rw was at linked.accounts));
              accounts_across = linked.accounts_across;
            }

      -- an OPEN that was refused, with the code of its CLOSE
      pub refused_linked : (code : ℕ) (after : Ledger) → code < 256 ^ 2 → kind_of (row_message m) ≡ Moves
          → Linked makings model.rules end (took end x nothing_brought WroteClose (queued_in (Closes code) ∷ []) (closed e)) (with_queue y (map queued_in q))
          (p ++ (Closes code ∷ [])) q after dues-across
      unfolding flat_map
      refused_linked code after few moving =
          record {
            here = refused_sides makings model end x p linked.here code few;
            there = left_sides;
            converge = refuses_converge (source makings) end (Closes code) moving refl (rw was at linked.converge);
            awaits = λ line. gone_awaits (model.rules.pick line) (standing x) m (Closes code ∷ []) _ (rw (lines.none line) refl) (linked.awaits line);
            awaits_across = λ line.
                across_gone_awaits (model.rules.pick line) (standing y) m (Closes code ∷ []) _ (rw (lines.none line) refl)
                (linked.awaits_across line);
            delivers = writes_delivers data_in (standing y) (Closes code ∷ []) refl linked.delivers;
            delivers_across = rw append-nil (gone_delivers data_in (standing x) m linked.delivers_across);
            readies = writes_delivers ready_in (standing y) (Closes code ∷ []) refl linked.readies;
            readies_across = rw append-nil (gone_delivers ready_in (standing x) m linked.readies_across);
            confirmations = rw append-nil (writes_delivers confirms_in (standing y) (Closes code ∷ []) refl linked.confirmations);
            confirmations_across = rw append-nil (gone_delivers confirms_in (standing x) m linked.confirmations_across);
            accounts = gone_accounts (standing x) end (queued_in (Closes code)) WroteClose _ _ linked.accounts;
            accounts_across = linked.accounts_across;
          }

    -- a packet that came after the own close
    pub late_linked : x.past.ending ≡ WroteClose → Converge (source makings) end ClosedByItself p (standing y) q
        → Linked makings model.rules end x (with_queue y (map queued_in q)) p q dues dues-across
    late_linked wrote converge =
        let gone : standing x ≡ ClosedByItself = ap (λ (ending : Ending). stands ending e) wrote in
        record {
          here = linked.here;
          there = left_sides;
          converge = rw gone converge;
          awaits = λ line.
              let waits = linked.awaits line in
              record { rest = waits.rest; held = λ is_open. absurd (rw gone at is_open); due = waits.due; few = waits.few };
          awaits_across = λ line.
              let waits = linked.awaits_across line in
              record {
                rest = waits.rest;
                held = waits.held;
                due = λ is_open. absurd (rw gone at is_open);
                few = λ is_open. absurd (rw gone at is_open);
              };
          delivers = linked.delivers;
          delivers_across = rw gone (gone_delivers data_in (standing x) m linked.delivers_across);
          readies = linked.readies;
          readies_across = rw gone (gone_delivers ready_in (standing x) m linked.readies_across);
          confirmations = linked.confirmations;
          confirmations_across = rw gone (gone_delivers confirms_in (standing x) m linked.confirmations_across);
          accounts = linked.accounts;
          accounts_across = linked.accounts_across;
        }

-- ---- what the world notes of a packet that is told

-- its data, its READY, and how the end has ended
record NotedAs (m : Packet) : Type 0 where
  carries : data_told (told_in m) ≡ data_in m
  readies : ready_told (told_in m) ≡ ready_in m
  confirms : confirmed_told (told_in m) ≡ confirms_in m
  ends : (replied : List Queued) (before : Ending) → ended_after 0 (told_in m) replied before ≡ ended_by HeardClose (row_message m) before

called_noted : (e : Endpoint) (call : Call) → NotedAs (Called e call)
called_noted e (OPEN asked) = record { carries = refl; readies = refl; confirms = refl; ends = λ replied before. refl }
called_noted e (READY count) = record { carries = refl; readies = refl; confirms = refl; ends = λ replied before. refl }
called_noted e (DATA datum) = go datum.ask
  where
    go : (ask : Bool) → NotedAs (Called e (DATA (record { type-data = datum.type-data; ask = ask; body = datum.body })))
    go true = record { carries = refl; readies = refl; confirms = refl; ends = λ replied before. refl }
    go false = record { carries = refl; readies = refl; confirms = refl; ends = λ replied before. refl }
called_noted e (NOOP type-data ask) = record { carries = refl; readies = refl; confirms = refl; ends = λ replied before. refl }
called_noted e (CLOSE code) = record { carries = refl; readies = refl; confirms = refl; ends = λ replied before. refl }

confirmation_noted : (message : MessageType) (type-data : ℕ) → confirmable message ≡ true → NotedAs (Confirms message type-data)
confirmation_noted Open type-data can = clash cc
confirmation_noted Ready type-data can = clash cc
confirmation_noted Noop type-data can = record { carries = refl; readies = refl; confirms = refl; ends = λ replied before. refl }
confirmation_noted Data type-data can = record { carries = refl; readies = refl; confirms = refl; ends = λ replied before. refl }
confirmation_noted Close type-data can = clash cc

told_noted : {A : Type 0} (makings : Makings) (model : Model A) (end : End) (m : Packet) → Proper makings model.rules end m → NotedAs m
told_noted makings model end (Called e call) proper = called_noted e call
told_noted makings model end (Confirms message type-data) proper = confirmation_noted message type-data proper.0
told_noted makings model end (Closes code) proper = record { carries = refl; readies = refl; confirms = refl; ends = λ replied before. refl }

-- a confirmation is queued as a reply, with no options
answers_queued : (prompt : MessageType → Bool) (m : Packet) → map as_reply (map bytes_in (answers_in prompt m)) ≡ map queued_in (answers_in prompt m)
answers_queued prompt (Called e call) = go (ask_of call) (prompt (message_of call))
  where
    answers : Bool → Bool → List Packet
    answers ask at_once = cond ask (cond at_once (Confirms (message_of call) (type_data_of call) ∷ []) []) []

    go : (ask at_once : Bool) → map as_reply (map bytes_in (answers ask at_once)) ≡ map queued_in (answers ask at_once)
    go true true = refl
    go true false = refl
    go false at_once = refl
answers_queued prompt (Confirms message type-data) = refl
answers_queued prompt (Closes code) = refl

module _ {A : Type 0} (model : Model A) (end : End) (x : Side A) (m : Packet) (result : ReceiveOutcome A) where
  abbrev seen : Side Endpoint
  seen = viewed_side model.view.endpoint x

  abbrev next : Endpoint
  next = model.view.endpoint result.next

  abbrev pub noted_side : Side Endpoint
  noted_side =
      took end seen (brought_by result.told)
      (ended_after result.number result.told (map as_reply result.replied) x.past.ending) (map as_reply result.replied) next

  -- what is told of a packet that is heard is what it carries
  pub heard_noted : (makings : Makings) → Proper makings model.rules (across end) m → result.number ≡ 0 → result.told ≡ told_in m
      → result.replied ≡ map bytes_in (answers_in model.rules.prompt m) → x.past.ending ≡ Going
      → noted_side ≡ took_in model.rules.prompt end seen m next
  heard_noted makings proper answered told replied going =
      let noted = told_noted makings model (across end) m proper in
      let answers = answers_queued model.rules.prompt m in
      rw (answered, told, replied, going, answers, noted.carries, noted.readies, noted.confirms, noted.ends (map queued_in (answers_in model.rules.prompt m)) Going) refl

  -- of an OPEN that is refused nothing is told, and its CLOSE is an ending
  pub refused_noted : (code : ℕ) → eqb result.number 0 ≡ false → result.told ≡ nothing_told → result.replied ≡ bytes_in (Closes code) ∷ []
      → noted_side ≡ took end seen nothing_brought WroteClose (queued_in (Closes code) ∷ []) next
  refused_noted code refused told replied = rw (refused, told, replied) refl
