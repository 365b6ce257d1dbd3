-- What each call makes of the count of unconfirmed reports. Assumes nothing.
use mathlib.Core.Path.{◌≡◌, ◌∙◌, ap, refl, subst, sym}
use Prim.Native.Nat.{ℕ, suc, ◌+◌, ◌-◌, ◌≤◌, ◌<◌}
use mathlib.Core.List.{List, ◌∷◌}
use mathlib.Core.Bool.{Bool, ◌&&◌, cond, false, not, true}
use native.Mathlib.Omega.{arith}
use lib.Dec.{eqb, leb, ltb}
use lib.ListN.{drop}
use borrow.Author.Tests.{eq-eqb, eqb-true, leb-false, leb-true, lt-ltb, ltb-true, ne_eqb, not-false}
use Rattle.std.specs.Prelude.{Result, Ok, Err}
use Rattle.bytes_be.proofs.Tests.{both_true, clash}
use Rattle.control.specs.declared.MessageType.{MessageType}
use Rattle.control.specs.declared.MessageType.TheVariants.{Open, Ready, Noop, Data, Close}
use Rattle.control.specs.Frame.{ack_reply, type_of}
use Rattle.open.specs.Offer.{Offer}
use Rattle.message.specs.declared.Message.{Message}
use Rattle.double.specs.Limit.{in_limits}
use Rattle.endpoint.specs.declared.BadMaking.{BadMaking}
use Rattle.endpoint.specs.declared.Endpoint.{Endpoint}
use Rattle.endpoint.specs.declared.Entry.{Entry}
use Rattle.endpoint.specs.Record.{asked, at_phase, awaited, batch, capacity, client, closed, confirmed, entry_at, fresh_of, given_number, good_flow, idle, limited, made_of, made_or, offer, oldest, opening, producer, fresh, shut, unconfirmed_with, unconfirmed_without}
use Rattle.endpoint.proofs.Awaited.{oldest_awaited}
use Rattle.endpoint.proofs.Reports.{reports, reports_few}
use Rattle.endpoint.proofs.Told.{good_told}
use Rattle.table.specs.declared.Refusal.{Refusal}
use Rattle.table.specs.declared.Step.{Step}
use Rattle.table.specs.Table.{To, allowed, at_row, begun, close_row, data_row, moved, noop_row, not_allowed, open_row, other, ready_row, row_of}
use Rattle.receiving.specs.declared.Content.{Content}
use Rattle.receiving.specs.declared.Content.TheVariants.{Nothing, Opening, Body as Content-as-Body}
use Rattle.receiving.specs.Numbers.{Received}
use Rattle.receiving.specs.Hearing.{accepted, confirmed_by, confirms, forbidden, hear_row, limited_by, matches_oldest, moves_as, unmatched}
use Rattle.receiving.specs.Refusing.{refused, unchanged}
use Rattle.sending.specs.Calls.{Call, OPEN, READY, DATA, NOOP, CLOSE, outgoing}
use Rattle.sending.specs.Sending.{Sent, asked_by, is_full, number_for, send_row, sent_by, unsent}
use Rattle.sending.proofs.Decided.{all_passed}
use Rattle.machine.specs.Good.{Sound}
use Rattle.machine.specs.Programs.{Making, AsClient, AsServer, fresh_by}
use Rattle.machine.specs.Unconfirmed.{Change, Same, OneMore, OneLess, Cleared, Leaves, if_accepted, send_change, message_change, answer_change, MakingLeaves, SendLeaves, ReceiveLeaves}
use Rattle.machine.proofs.Rows.{allowed_holds, ready_holds}
use Rattle.machine.proofs.Stages.{Passed, received_holds}

-- ---- rows: the row of any message but CLOSE keeps what is awaited

-- an endpoint that awaits what another does
record Keeps (e after : Endpoint) : Type 0 where
  waits : after.w ≡ e.w
  counts : after.unconfirmed ≡ e.unconfirmed
  lists : after.entries ≡ e.entries

module _ (e : Endpoint) where
  itself : Keeps e e
  itself = record { waits = refl; counts = refl; lists = refl }

  at_kept : (phase n : ℕ) → eqb phase shut ≡ false → Keeps e (at_row e phase n)
  unfolding at_row at_phase
  at_kept phase n goes = simp goes (record { waits = refl; counts = refl; lists = refl })

  begun_kept : (phase count : ℕ) → eqb phase shut ≡ false → Keeps e (moved e (begun phase count))
  unfolding begun
  begun_kept phase count goes = go (eqb count 0)
    where
      go : (t : Bool) → Keeps e (moved e (cond t (To idle 0) (To phase count)))
      go true = at_kept idle 0 refl
      go false = at_kept phase count goes

  allowed_kept : (t : Bool) (row : Result Step Refusal) → (t ≡ true → Keeps e (moved e row)) → Keeps e (moved e (allowed t row))
  allowed_kept = allowed_holds (Keeps e) e itself

  open_kept : (role : ℕ) → Keeps e (moved e (open_row role e.phase))
  unfolding open_row
  open_kept role = allowed_kept (eqb role client && eqb e.phase fresh) _ (λ there. at_kept opening 0 refl)

  ready_kept : (role count : ℕ) → Keeps e (moved e (ready_row role e.phase e.n count))
  ready_kept role count = ready_holds (Keeps e) e itself role count (begun_kept batch count refl) (begun_kept offer count refl)

  data_kept : (flow : ℕ) → Keeps e (moved e (data_row flow e.phase e.n))
  unfolding data_row
  data_kept flow = allowed_kept (eqb flow producer && eqb e.phase batch) _ (λ there. begun_kept batch (e.n - 1) refl)

  noop_kept : Keeps e (moved e (noop_row e.phase e.n))
  unfolding noop_row
  noop_kept =
      allowed_kept (leb idle e.phase && leb e.phase batch) _
      (λ there. let late = leb-true e.phase batch (both_true (leb idle e.phase) (leb e.phase batch) there).1 in
      at_kept e.phase e.n (ne_eqb e.phase shut (λ same. omega (arith, late, same))))

  -- and that of a CLOSE leaves nothing, where it is allowed
  close_clears : not_allowed (close_row e.phase) ≡ false → (moved e (close_row e.phase)).unconfirmed ≡ 0
  unfolding close_row at_row closed
  close_clears = go (leb opening e.phase && leb e.phase batch)
    where
      go : (t : Bool) → not_allowed (allowed t (To shut 0)) ≡ false → (moved e (allowed t (To shut 0))).unconfirmed ≡ 0
      go true passes = refl
      go false barred = clash cc

-- ---- sends

module _ (e : Endpoint) (sound : Sound e) where
  -- at most as many as are awaited
  few : e.unconfirmed ≤ e.w
  few = omega (arith, (good_told e sound.is-good).tallied, reports_few (entry_at e.entries) e.w)

  -- an ask of DATA counts, and one of NOOP does not

  room : (ask : Bool) → ask && leb capacity e.w ≡ false → ask ≡ true → e.w < capacity
  room true awaits asks = leb-false capacity e.w awaits
  room false awaits asks = clash cc

  asked_counted : (entry : Entry) (after : Endpoint) → Keeps e after → e.w < capacity → (asked after entry).unconfirmed ≡ unconfirmed_with e.unconfirmed entry
  unfolding asked
  asked_counted entry after kept free = simp (kept.waits, lt-ltb e.w capacity free, kept.counts)

  data_asked : (ask : Bool) (type-data : ℕ) (after : Endpoint) → Keeps e after → ask && leb capacity e.w ≡ false
      → Leaves (cond ask OneMore Same) e.unconfirmed (cond ask (asked after (record { message = 4; type_data = type-data })) after).unconfirmed
  unfolding unconfirmed_with
  data_asked true type-data after kept awaits =
      let free = room true awaits refl in
      asked_counted (record { message = 4; type_data = type-data }) after kept free
      ∙ simp (lt-ltb e.unconfirmed capacity (omega (arith, few, free)))
  data_asked false type-data after kept awaits = kept.counts

  noop_asked : (ask : Bool) (type-data : ℕ) (after : Endpoint) → Keeps e after → ask && leb capacity e.w ≡ false
      → (cond ask (asked after (record { message = 3; type_data = type-data })) after).unconfirmed ≡ e.unconfirmed
  unfolding unconfirmed_with
  noop_asked true type-data after kept awaits =
      let free = room true awaits refl in
      asked_counted (record { message = 3; type_data = type-data }) after kept free
      ∙ simp (lt-ltb e.unconfirmed capacity (omega (arith, few, free)))
  noop_asked false type-data after kept awaits = kept.counts

  accepted_leaves : (call : Call) → not_allowed (send_row e (outgoing e call)) ≡ false → is_full e (outgoing e call) ≡ false
      → Leaves (send_change call) e.unconfirmed (asked_by (moved e (send_row e (outgoing e call))) (outgoing e call)).unconfirmed
  unfolding send_row asked_by is_full
  accepted_leaves (OPEN pipe) passes awaits = (open_kept e e.role).counts
  accepted_leaves (READY count) passes awaits = (ready_kept e e.role count).counts
  accepted_leaves (DATA datum) passes awaits = data_asked datum.ask datum.type-data _ (data_kept e e.flow) awaits
  accepted_leaves (NOOP type-data ask) passes awaits = noop_asked ask type-data _ (noop_kept e) awaits
  accepted_leaves (CLOSE code) passes awaits = close_clears e passes

-- a call that is refused leaves the endpoint as it was
refused_leaves : (number count : ℕ) (change : Change) → eqb number 0 ≡ false → Leaves (if_accepted number change) count count
refused_leaves number count change refuses = subst (λ (t : Bool). Leaves (cond t change Same) count count) (sym refuses) refl

pub send_leaves : SendLeaves
unfolding sent_by
send_leaves e sound call room = go (eqb number 0) refl
  where
    number : ℕ
    number = number_for e (outgoing e call) (send_row e (outgoing e call)) room

    next : Endpoint
    next = asked_by (moved e (send_row e (outgoing e call))) (outgoing e call)

    go : (t : Bool) → eqb number 0 ≡ t
        → Leaves (if_accepted (cond {A = Sent} t (record { number = 0; next = next; written = (outgoing e call).length }) (unsent e number)).number (send_change call))
        e.unconfirmed
        (cond {A = Sent} t (record { number = 0; next = next; written = (outgoing e call).length }) (unsent e number)).next.unconfirmed
    go true accepts =
        let passed = all_passed e (outgoing e call) (send_row e (outgoing e call)) room (eqb-true number 0 accepts) in
        accepted_leaves e sound call passed.allowed passed.awaits
    go false refuses = refused_leaves number e.unconfirmed (send_change call) refuses

-- ---- makings

fresh_none : (making : Making) → (fresh_by making).unconfirmed ≡ 0
unfolding fresh_of
fresh_none (AsClient flow limit) = refl
fresh_none (AsServer flow) = refl

pub making_leaves : MakingLeaves
unfolding made_of
making_leaves e making = go (good_flow (fresh_by making).flow && in_limits (fresh_by making).limit)
  where
    made : Bool → Result Endpoint BadMaking
    made t = cond t (Ok (fresh_by making)) (Err (record {}))

    go : (t : Bool) → Leaves (if_accepted (given_number (made t)) Cleared) e.unconfirmed (made_or e (made t)).unconfirmed
    go true = fresh_none making
    go false = refl

-- ---- receives

module _ (e : Endpoint) (sound : Sound e) where
  -- a confirmation that matches has the type of the oldest
  matched_type : (message : MessageType) (type-data : ℕ) → matches_oldest e message type-data ≡ true → (0 < e.w) × ((oldest e).message ≡ type_of message)
  unfolding matches_oldest
  matched_type message type-data matches =
      let both = both_true (ltb 0 e.w && eqb (oldest e).message (type_of message)) (eqb (oldest e).type_data type-data) matches in
      let first = both_true (ltb 0 e.w) (eqb (oldest e).message (type_of message)) both.0 in
      (ltb-true 0 e.w first.0, eqb-true (oldest e).message (type_of message) first.1)

  -- and in an endpoint that awaits the same the oldest is the same
  oldest_kept : (after : Endpoint) → Keeps e after → (message : ℕ) → (oldest e).message ≡ message → eqb (oldest after).message 4 ≡ eqb message 4
  oldest_kept after kept message typed =
      ap (λ (entries : List ℕ). eqb (entry_at entries 0).message 4) kept.lists ∙ ap (λ (type : ℕ). eqb type 4) typed

  -- a confirmation of DATA takes the oldest, which is of DATA
  data_confirmed : (after : Endpoint) → Keeps e after → (type-data : ℕ) → matches_oldest e Data type-data ≡ true → e.unconfirmed ≡ (confirmed after).unconfirmed + 1
  unfolding confirmed unconfirmed_without
  data_confirmed after kept type-data matches =
      let first = matched_type Data type-data matches in
      let counted = (good_told e sound.is-good).tallied ∙ ap reports (oldest_awaited e first.0) ∙ some (eq-eqb _ _ first.1) in
      simp (oldest_kept after kept 4 first.1) (omega (arith, counted, kept.counts))
    where
      some : eqb (oldest e).message 4 ≡ true → reports (oldest e ∷ drop 1 (awaited e)) ≡ suc (reports (drop 1 (awaited e)))
      some typed = simp typed refl

  -- and one of NOOP leaves the count
  noop_confirmed : (after : Endpoint) → Keeps e after → (type-data : ℕ) → matches_oldest e Noop type-data ≡ true → (confirmed after).unconfirmed ≡ e.unconfirmed
  unfolding confirmed unconfirmed_without
  noop_confirmed after kept type-data matches = simp (oldest_kept after kept 3 (matched_type Noop type-data matches).1) kept.counts

  -- the message that is heard, with its row

  limited_same : (after : Endpoint) (content : Content) → (limited_by after content).unconfirmed ≡ after.unconfirmed
  unfolding limited
  limited_same after Nothing = refl
  limited_same after (Opening opens) = refl
  limited_same after (Content-as-Body place) = refl

  module _ (type-data : ℕ) where
    abbrev led : MessageType → Endpoint
    led message = moved e (row_of (other e.role) (other e.flow) e.phase e.n message type-data)

    data_heard : (t : Bool) → t && not (matches_oldest e Data type-data) ≡ false
        → Leaves (cond t OneLess Same) e.unconfirmed (cond t (confirmed (led (cond t Noop Data))) (led (cond t Noop Data))).unconfirmed
    data_heard true matched = data_confirmed (led Noop) (noop_kept e) type-data (not-false (matches_oldest e Data type-data) matched)
    data_heard false matched = (data_kept e (other e.flow)).counts

    noop_heard : (t : Bool) → t && not (matches_oldest e Noop type-data) ≡ false
        → (cond t (confirmed (led (cond t Noop Noop))) (led (cond t Noop Noop))).unconfirmed ≡ e.unconfirmed
    noop_heard true matched = noop_confirmed (led Noop) (noop_kept e) type-data (not-false (matches_oldest e Noop type-data) matched)
    noop_heard false matched = (noop_kept e).counts

    message_leaves : (message : MessageType) (flags : ℕ) → not_allowed (row_of (other e.role) (other e.flow) e.phase e.n (moves_as message flags) type-data) ≡ false
        → confirms message flags && not (matches_oldest e message type-data) ≡ false
        → Leaves (message_change message flags) e.unconfirmed
        (cond (confirms message flags) (confirmed (led (moves_as message flags))) (led (moves_as message flags))).unconfirmed
    unfolding moves_as
    message_leaves Open flags passes matched = (open_kept e (other e.role)).counts
    message_leaves Ready flags passes matched = (ready_kept e (other e.role) type-data).counts
    message_leaves Noop flags passes matched = noop_heard (eqb flags ack_reply) matched
    message_leaves Data flags passes matched = data_heard (eqb flags ack_reply) matched
    message_leaves Close flags passes matched = close_clears e passes

  heard_leaves : (s : List ℕ) (pipe : Offer) (m : Message) (content : Content) → Passed e s pipe m content
      → Leaves (message_change m.message m.flags) e.unconfirmed (accepted e m (hear_row e m) content).next.unconfirmed
  unfolding accepted confirmed_by hear_row forbidden unmatched
  heard_leaves s pipe m content passed =
      subst (Leaves (message_change m.message m.flags) e.unconfirmed) (sym (limited_same _ content))
      (message_leaves m.type_data m.message m.flags passed.allowed passed.matched)

pub receive_leaves : ReceiveLeaves
unfolding unchanged refused closed accepted
receive_leaves e sound s pipe room =
    received_holds (λ (x : Received). Leaves (answer_change x.answer) e.unconfirmed x.next.unconfirmed) e s pipe
    (λ number. refl) (λ number closes. refl) (heard_leaves e sound s pipe) room
