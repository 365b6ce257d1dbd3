-- Two ends, of which one sends: an accepted send keeps what links them, from whichever end they are seen. Assumes nothing.
use mathlib.Core.Path.{◌≡◌, refl, sym, ◌∙◌, ap, subst}
use Prim.Native.Nat.{ℕ, ◌≤◌}
use mathlib.Core.Bool.{Bool, true, false, cond}
use lib.Dec.{eqb}
use lib.ListN.{length}
use mathlib.Core.List.{List, [], ◌∷◌, ◌++◌, append-nil, flat_map}
use borrow.Author.Tests.{eq-eqb, eqb-true}
use Rattle.control.specs.declared.MessageType.{MessageType}
use Rattle.endpoint.specs.declared.Endpoint.{Endpoint}
use Rattle.endpoint.specs.Record.{capacity, producer, reports_in, shut}
use Rattle.endpoint.proofs.Reports.{reports_append}
use Rattle.sending.specs.Calls.{Call, message_of, type_data_of}
use Rattle.machine.specs.Programs.{SendOutcome}
use Rattle.session.specs.World.{End, across, Makings, Ending, asked_for, Side, ended_by, Going, WroteClose}
use Rattle.session.specs.Packets.{Packet, queued_in, data_in, ready_in}
use Rattle.session.specs.Turns.{role_of, stage_of, stands, standing, IsOpen, Listens, At, ClosedByItself}
use Rattle.session.specs.Demand.{Ledger, producing}
use Rattle.session.specs.Confirmations.{asked_in, confirmed_in, confirms_in}
use Rattle.session.specs.Invariant.{Model, source, OneEnd, Linked}
use Rattle.session.specs.Laws.{Lines, SentOn}
use Rattle.session.proofs.Table.{row_moved, moved_low, Landed, goes_on, closes_both, moved_lands, landing, landing_at, row_sends}
use Rattle.session.proofs.Turns.{across_converge, across_twice, sends_converge}
use Rattle.session.proofs.Streams.{sends_awaits, across_sends_awaits, sends_delivers, writes_delivers, across_delivers, asked_reports, sends_accounts}
use Rattle.session.proofs.Ends.{wrote, is_going, sender_knows, sent_sides}

-- where an end stands that sent a message

writer_stands : (e : Endpoint) {message : MessageType} {next count : ℕ} → e.phase ≡ next → e.n ≡ count → Landed message next count
    → stands (ended_by WroteClose message Going) e ≡ landing next count
writer_stands e {next = next} {count = count} phased counted (goes_on stays low) =
    ap (λ (ending : Ending). stands ending e) (stays WroteClose) ∙ rw (phased, counted) (landing_at next count low)
writer_stands e phased counted closes_both = refl

lands_low : (next count : ℕ) → IsOpen (landing next count) → next ≡ shut → ⊥
lands_low next count is_open is-shut = rw (eq-eqb next shut is-shut) at is_open

lands_shut : (next count : ℕ) → (IsOpen (landing next count) → ⊥) → next ≡ shut
lands_shut next count closed = go (eqb next shut) refl closed
  where
    go : (t : Bool) → eqb next shut ≡ t → (IsOpen (cond t ClosedByItself (At (record { phase = next; n = count }))) → ⊥) → next ≡ shut
    go true is shut-down = eqb-true next shut is
    go false is shut-down = absurd (shut-down tt)

-- who produces, seen from an end that does
own_source : (makings : Makings) (end : End) (own : ℕ) → producing end own ≡ source makings → own ≡ producer → source makings ≡ end
own_source makings end own agreed is-producer = sym agreed ∙ rw is-producer refl

module _ {A : Type 0} (makings : Makings) (model : Model A) (end : End) (x y : Side Endpoint) (p q : List Packet) (dues dues-across : Ledger)
    (linked : Linked makings model.rules end x y p q dues dues-across) where
  -- the same two ends, seen from the other
  pub across_linked : Linked makings model.rules (across end) y x q p dues-across dues
  across_linked =
      record {
        here = linked.there;
        there = subst (λ (e : End). OneEnd makings model.rules e x p) (across_twice end) linked.here;
        converge = across_converge (source makings) end linked.converge;
        awaits = linked.awaits_across;
        awaits_across = linked.awaits;
        delivers = linked.delivers_across;
        delivers_across = linked.delivers;
        readies = linked.readies_across;
        readies_across = linked.readies;
        confirmations = linked.confirmations_across;
        confirmations_across = linked.confirmations;
        accounts = linked.accounts_across;
        accounts_across = linked.accounts;
      }

  -- an accepted send
  pub sent_linked : Lines model.rules.pick → (call : Call) (result : SendOutcome A) → (sent : SentOn model x.self dues call result)
      → ((line : ℕ) → length ((model.view.ledger result.next).waits line) ≤ capacity)
      → Linked makings model.rules end (wrote end x call (queued_in sent.packet) (model.view.endpoint result.next)) y (p ++ (sent.packet ∷ [])) q
      (model.view.ledger result.next) dues-across
  unfolding flat_map
  sent_linked lines call result sent bounded =
      let here = linked.here in
      let m : Packet = sent.packet in
      let e : Endpoint = x.self in
      let leads = rw here.role at sent.leads in
      let moves = row_moved (role_of end) e.flow e.phase e.n (message_of call) (type_data_of call) sent.phase sent.n leads in
      let going = is_going x.past.ending e.phase here.ends (moved_low moves) in
      let knows = here.settled (sender_knows end moves) in
      let next : Endpoint = model.view.endpoint result.next in
      let after : stands (ended_by WroteClose (message_of call) x.past.ending) next ≡ landing sent.phase sent.n =
      rw going (writer_stands next sent.comes.phased sent.comes.counted (moved_lands moves)) in
      let was : standing x ≡ At (stage_of e) = ap (λ (ending : Ending). stands ending e) going in
      let listened : Listens (standing x) = rw was tt in
      record {
        here = sent_sides makings model end x p here dues call result sent;
        there = linked.there;
        converge =
            rw after
            (sends_converge (source makings) end (rw was at linked.converge)
            (row_sends (source makings) end e.flow e.phase e.n m sent.phase sent.n (rw here.role at sent.sends)
            (λ produces batching. own_source makings end e.flow knows.produced produces)));
        awaits = λ line.
            rw after
            (sends_awaits (model.rules.pick line) (stage_of e) (landing sent.phase sent.n) m _
            (λ is_open. sent.awaits line (lands_low sent.phase sent.n is_open)) (bounded line)
            (λ shut-down. sent.silent (lands_shut sent.phase sent.n shut-down) line) (rw was at (linked.awaits line)));
        awaits_across = λ line.
            rw after
            (across_sends_awaits (model.rules.pick line) (standing y) (landing sent.phase sent.n) (stage_of e) m (sent.left line) _
            (sent.files line) (λ is_open. sent.owes line (lands_low sent.phase sent.n is_open)) (rw was at (linked.awaits_across line)));
        delivers = rw sent.carried (sends_delivers data_in (standing y) m linked.delivers);
        delivers_across = across_delivers data_in (standing x) _ (λ listens. listened) linked.delivers_across;
        readies = rw sent.readied (sends_delivers ready_in (standing y) m linked.readies);
        readies_across = across_delivers ready_in (standing x) _ (λ listens. listened) linked.readies_across;
        confirmations = writes_delivers confirms_in (standing y) (m ∷ []) (append-nil (confirms_in m) ∙ sent.confirmless) linked.confirmations;
        confirmations_across = across_delivers confirms_in (standing x) _ (λ listens. listened) linked.confirmations_across;
        accounts =
            rw after
            (sends_accounts (stage_of e) (landing sent.phase sent.n) end call (model.rules.pick 0 (asked_in m)) _ (sent.left 0) _
            (lines.reports (asked_in m) ∙ asked_reports m ∙ ap asked_for (sym sent.carried))
            (λ is_open. sent.awaits 0 (lands_low sent.phase sent.n is_open))
            (ap reports_in (sent.files 0) ∙ reports_append (model.rules.pick 0 (confirmed_in m)) (sent.left 0)
            ∙ ap (λ (l : List ℕ). l ++ reports_in (sent.left 0)) (lines.reports (confirmed_in m) ∙ sent.confirmless))
            (λ is_open. sent.owes 0 (lands_low sent.phase sent.n is_open)) (rw was at linked.accounts));
        accounts_across = linked.accounts_across;
      }
