-- Which packets are OPENs; where a row leads, and what a call of the tables puts on its way. Assumes nothing.
use mathlib.Core.Path.{◌≡◌, ◌∙◌, ap, refl, subst, sym}
use Prim.Native.Nat.{ℕ, ◌<◌, ◌^◌}
use mathlib.Core.List.{List, [], ◌∷◌, ◌++◌, append-nil}
use mathlib.Core.Bool.{Bool, true, false, cond, ◌&&◌}
use native.Mathlib.Omega.{arith}
use lib.Dec.{eqb, leb, ltb}
use borrow.Author.Tests.{eqb-true, leb-false, ne_eqb}
use Rattle.std.specs.Prelude.{Err, Ok, Result}
use Rattle.bytes_be.proofs.Tests.{clash}
use Rattle.control.specs.declared.MessageType.{MessageType}
use Rattle.control.specs.declared.MessageType.TheVariants.{Open, Ready, Noop, Data, Close}
use Rattle.open.specs.Offer.{Offer}
use Rattle.endpoint.specs.declared.Endpoint.{Endpoint}
use Rattle.endpoint.specs.declared.Entry.{Entry}
use Rattle.endpoint.specs.Record.{asked, at_phase, awaited, capacity, closed, one_more, shut}
use Rattle.endpoint.proofs.Awaited.{asked_awaited, phase_awaited}
use Rattle.table.specs.declared.Refusal.TheVariants.{NotAllowed, AboveOffer}
use Rattle.table.specs.declared.Refusal.{Refusal}
use Rattle.table.specs.declared.Step.{Step}
use Rattle.table.specs.Table.{To, above_offer, at_row, moved, not_allowed, row_of}
use Rattle.sending.specs.Calls.{Outgoing, Call, OPEN, READY, DATA, NOOP, CLOSE, message_of, type_data_of, ask_of, outgoing}
use Rattle.sending.specs.Sending.{Sent, asked_by, is_full, send_of, send_row}
use Rattle.sending.proofs.Decided.{accepted_passed, accepted_sent}
use Rattle.machine.specs.Good.{Sound, Fits}
use Rattle.machine.proofs.Good.{sent_good}
use Rattle.machine.proofs.Rows.{row_sound}
use Rattle.machine.specs.Programs.{tables}
use Rattle.session.specs.Packets.{Packet, row_message, Called, Confirms, Closes}
use Rattle.session.specs.Confirmations.{entry_for}
use Rattle.session.specs.Demand.{prompt_ledger}
use Rattle.session.specs.Laws.{on_records, limit_after, Comes, SentOn, offered_in}
use Rattle.session.proofs.Table.{row_moved, Landed, goes_on, closes_both, moved_lands}

-- a packet is an OPEN, or another one, which is always offered and leaves the limit as it is

abbrev pub is_open_message : MessageType → Bool
is_open_message Open = true
is_open_message Ready = false
is_open_message Noop = false
is_open_message Data = false
is_open_message Close = false

pub data OpenOrOther : Packet → Type 0 where
  an_open : (e : Endpoint) (asked : Offer) → OpenOrOther (Called e (OPEN asked))
  another : {m : Packet} → is_open_message (row_message m) ≡ false → ((r : Endpoint) (pipe : Offer) → offered_in m r pipe ≡ true)
      → ((limit : ℕ) → limit_after m limit ≡ limit) → OpenOrOther m

pub open_or_other : (m : Packet) → OpenOrOther m
open_or_other (Called e (OPEN asked)) = an_open e asked
open_or_other (Called e (READY count)) = another refl (λ r pipe. refl) (λ limit. refl)
open_or_other (Called e (DATA datum)) = another refl (λ r pipe. refl) (λ limit. refl)
open_or_other (Called e (NOOP type-data ask)) = another refl (λ r pipe. refl) (λ limit. refl)
open_or_other (Called e (CLOSE code)) = another refl (λ r pipe. refl) (λ limit. refl)
open_or_other (Confirms message type-data) = another refl (λ r pipe. refl) (λ limit. refl)
open_or_other (Closes code) = another refl (λ r pipe. refl) (λ limit. refl)

-- ---- where a row leads

-- a row that leads to phase 5 leaves no n
landed_empty : {message : MessageType} {next count : ℕ} → Landed message next count → next ≡ shut → count ≡ 0
landed_empty (goes_on stays low) is-shut = absurd (omega (arith, is-shut, low))
landed_empty closes_both is-shut = refl

module _ (e : Endpoint) (sound : Sound e) (role flow : ℕ) (message : MessageType) (type-data phase n : ℕ) (few : type-data < 256 ^ 2)
    (leads : row_of role flow e.phase e.n message type-data ≡ To phase n) where
  -- an endpoint comes to the phase and n of its row, and stays the same in role, flow and limit
  pub row_comes : Comes e phase n e.limit (at_row e phase n)
  unfolding at_row closed at_phase
  row_comes = go (eqb phase shut) refl (subst (λ (row : Result Step Refusal). Sound (moved e row)) leads (row_sound e sound role flow message type-data few))
    where
      go : (t : Bool) → eqb phase shut ≡ t → Sound (cond t (closed e) (at_phase e phase n))
          → Comes e phase n e.limit (cond t (closed e) (at_phase e phase n))
      go true ends good =
          let same = eqb-true phase shut ends in
          let none = landed_empty (moved_lands (row_moved role flow e.phase e.n message type-data phase n leads)) same in
          record { sound = good; phased = sym same; counted = sym none; role = refl; flow = refl; limited = refl }
      go false goes good = record { sound = good; phased = refl; counted = refl; role = refl; flow = refl; limited = refl }

module _ (e : Endpoint) (phase n : ℕ) (goes : phase ≡ shut → ⊥) where
  -- and unless it closes it awaits what it awaited
  pub row_waits : (at_row e phase n).w ≡ e.w
  unfolding at_row at_phase
  row_waits = simp (ne_eqb phase shut goes)

  pub row_awaited : awaited (at_row e phase n) ≡ awaited e
  unfolding at_row
  row_awaited = simp (ne_eqb phase shut goes) (phase_awaited e phase n)

-- ---- a call that was accepted

-- a row that no test refuses leads somewhere
record LeadsOn (row : Result Step Refusal) : Type 0 where
  phase : ℕ
  n : ℕ
  leads : row ≡ To phase n

leads_on : (row : Result Step Refusal) → not_allowed row ≡ false → above_offer row ≡ false → LeadsOn row
leads_on (Err NotAllowed) barred below = clash cc
leads_on (Err AboveOffer) passes above = clash cc
leads_on (Ok step) passes below = record { phase = step.phase; n = step.n; leads = refl }

module _ (e after : Endpoint) (phase n limit : ℕ) (comes : Comes e phase n limit after) (entry : Entry) where
  -- an ask changes the confirmations awaited alone
  asked_comes : Sound (asked after entry) → Comes e phase n limit (asked after entry)
  unfolding asked
  asked_comes = go (ltb after.w capacity)
    where
      go : (t : Bool) → Sound (cond t (one_more after entry) after) → Comes e phase n limit (cond t (one_more after entry) after)
      go true sound =
          record {
            sound = sound;
            phased = comes.phased;
            counted = comes.counted;
            role = comes.role;
            flow = comes.flow;
            limited = comes.limited;
          }
      go false sound = comes

  ask_comes : (ask : Bool) → Sound (cond ask (asked after entry) after) → Comes e phase n limit (cond ask (asked after entry) after)
  ask_comes true sound = asked_comes sound
  ask_comes false sound = comes

  -- and adds its entry to them
  ask_awaited : (ask : Bool) → entry.type_data < 256 ^ 2 → ask && leb capacity after.w ≡ false
      → awaited (cond ask (asked after entry) after) ≡ awaited after ++ cond ask (entry ∷ []) []
  ask_awaited true few room = asked_awaited after comes.sound.sized.full entry few (leb-false capacity after.w room)
  ask_awaited false few room = sym (append-nil (awaited after))

-- what leads to phase 5 is a CLOSE, which asks for nothing
shut_asks : (call : Call) {next count : ℕ} → Landed (message_of call) next count → next ≡ shut
    → cond (ask_of call) (entry_for (message_of call) (type_data_of call) ∷ []) [] ≡ []
shut_asks (OPEN asked) landed is-shut = refl
shut_asks (READY count) landed is-shut = refl
shut_asks (DATA datum) (goes_on stays low) is-shut = absurd (omega (arith, is-shut, low))
shut_asks (NOOP type-data ask) (goes_on stays low) is-shut = absurd (omega (arith, is-shut, low))
shut_asks (CLOSE code) landed is-shut = refl

pub sent_on : (e : Endpoint) (call : Call) (room : ℕ) → Sound e → Fits call → (send_of e call room).number ≡ 0
    → SentOn on_records e (prompt_ledger e) call (tables.send e call room)
unfolding send_row asked_by is_full
sent_on e call room sound fits zero_number =
    let o : Outgoing = outgoing e call in
    let entry : Entry = entry_for (message_of call) (type_data_of call) in
    let passed = accepted_passed e o room zero_number in
    let on = leads_on (send_row e o) passed.allowed passed.below in
    let after : Endpoint = at_row e on.phase on.n in
    let next : (send_of e call room).next ≡ cond (ask_of call) (asked after entry) after =
    ap (λ (s : Sent). s.next) (accepted_sent e o room zero_number) ∙ ap (λ (row : Result Step Refusal). asked_by (moved e row) o) on.leads in
    let comes = row_comes e sound e.role e.flow (message_of call) (type_data_of call) on.phase on.n fits on.leads in
    let moves = row_moved e.role e.flow e.phase e.n (message_of call) (type_data_of call) on.phase on.n on.leads in
    record {
      fine = sent_good e sound call fits room;
      packet = Called e call;
      queued = refl;
      proper =
          λ makings end flows limited. record {
            fits = fits;
            accepted = record { room = room; accepted = zero_number };
            flows = flows;
            limited = limited;
          };
      carried = refl;
      readied = refl;
      confirmless = refl;
      sends = on.leads;
      silent = λ is-shut line. shut_asks call (moved_lands moves) is-shut;
      phase = on.phase;
      n = on.n;
      leads = on.leads;
      comes =
          subst (Comes e on.phase on.n e.limit) (sym next)
          (ask_comes e after on.phase on.n e.limit comes entry (ask_of call) (subst Sound next (sent_good e sound call fits room)));
      left = λ line. [];
      files = λ line. refl;
      owes = λ line goes. refl;
      awaits = λ line goes.
          let room : ask_of call && leb capacity after.w ≡ false = simp (row_waits e on.phase on.n goes) passed.awaits in
          ap awaited next
          ∙ ask_awaited e after on.phase on.n e.limit comes entry (ask_of call) fits room
          ∙ ap (λ (front : List Entry). front ++ cond (ask_of call) (entry ∷ []) []) (row_awaited e on.phase on.n goes);
    }
