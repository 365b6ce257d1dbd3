-- Demand 3: what an end answers and what may be sent at rest; where the invariant holds the demand does; and so it holds after every list of calls of a
-- program that has the laws. Assumes nothing.
use mathlib.Core.Path.{◌≡◌, refl, sym, ◌∙◌, ap, subst}
use Prim.Native.Nat.{ℕ, ◌≤◌, ◌<◌}
use mathlib.Core.List.{[], ◌∷◌, List, append-nil, map}
use mathlib.Core.Bool.{Bool, true, false, cond, ◌||◌}
use native.Mathlib.Omega.{arith}
use lib.Dec.{eqb}
use borrow.Author.Tests.{eqb-true, eqb-false}
use Rattle.bytes_be.proofs.Tests.{clash}
use Rattle.open.specs.Offer.{Offer}
use Rattle.endpoint.specs.declared.Endpoint.{Endpoint}
use Rattle.endpoint.specs.Record.{fresh, offer, batch}
use Rattle.sending.specs.Calls.{Call, OPEN, READY, DATA}
use Rattle.machine.specs.Programs.{Program, Queued, tables}
use Rattle.session.specs.World.{End, across, Client, Server, Side, World, Event, AllFit, side, joined, with_queue, after_receive, step}
use Rattle.session.specs.World.{run, begun, viewed_side, receives}
use Rattle.session.specs.Demand.{pipe_a, empty_datum, MaySend, producing, MayAnswer, next_end, next_call, AtRest, Demand, turn}
use Rattle.session.specs.Invariant.{Model, Linked, Joint, Invariant}
use Rattle.session.specs.Laws.{Laws, InvariantHolds, LawsSuffice, on_records}
use Rattle.session.specs.Packets.{Packet, queued_in}
use Rattle.session.proofs.Tables.{tables_laws}
use Rattle.session.proofs.Step.{seen_from, head_delivered, start_keeps, step_keeps}
use Rattle.session.proofs.Speaking.{Speaks, speaks_sent, opens_first, offers_one, takes_all, gives_data, one_or_two}
use Rattle.session.proofs.Holding.{same_phase, low, clauses_hold}

-- the two ends of a world, joined again, are that world
joined_sides : {A : Type 0} (w : World A) (end : End) → joined end (side w end) (side w (across end)) ≡ w
joined_sides w Client = refl
joined_sides w Server = refl

module _ {A O : Type 0} (prog : Program A O) (model : Model A) (laws : Laws prog model) (w : World A) (holds : Invariant model w) where
  abbrev seen : Side A → Side Endpoint
  seen x = viewed_side model.view.endpoint x

  joint : (end : End) → Joint holds.makings model end (side w end) (side w (across end))
  joint end = seen_from end w holds

  -- "neither end refuses the other's message"
  head_answered : (end : End) (q : List Packet) → (joint end).from_across ≡ q → (m : Queued) (rest : List Queued) → map queued_in q ≡ m ∷ rest
      → (pipe : Offer) (out : O) → 14 ≤ prog.room out
      → MayAnswer (seen (side w end)) (seen (side w (across end))) m.bytes pipe
      (prog.receive (side w end).self m pipe out).number
  head_answered end [] is m rest queued pipe out enough = clash cc
  head_answered end (packet ∷ q) is m rest queued pipe out enough =
      subst Answers (first_of queued)
      (head_delivered prog model laws holds.makings end (side w end) (side w (across end)) (joint end).from_here q packet
      (rw is at (joint end).linked) (joint end).fine (joint end).fine_across pipe out enough).may
    where
      Answers : Queued → Type 0
      Answers head =
          MayAnswer (seen (side w end)) (seen (side w (across end))) head.bytes pipe
          (prog.receive (side w end).self head pipe out).number

      first_of : queued_in packet ∷ map queued_in q ≡ m ∷ rest → queued_in packet ≡ m
      first_of same = cc

  -- 2, "output too short"
  short_answered : (end : End) (m : Queued) (rest : List Queued) → (side w (across end)).queue ≡ m ∷ rest → (pipe : Offer) (out : O)
      → prog.room out < 14
      → ((prog.receive (side w end).self m pipe out).number ≡ 2) × (step prog w (receives end pipe out) ≡ w)
  unfolding step after_receive
  short_answered end m rest queued pipe out few =
      let short = laws.short (side w end).self m pipe out (joint end).fine few in
      let y : Side A = side w (across end) in
      let kept : with_queue y (m ∷ rest) ≡ y = ap (with_queue y) (sym queued) in
      (rw short refl, simp (queued, short, append-nil) (ap (joined end (side w end)) kept ∙ joined_sides w end))

  module _ (rest : AtRest w) where
    abbrev here : Endpoint
    here = model.view.endpoint w.client.self

    abbrev there : Endpoint
    there = model.view.endpoint w.server.self

    abbrev linked : Linked holds.makings model.rules Client (seen w.client) (seen w.server) holds.joint.from_here holds.joint.from_across
        (model.view.ledger w.client.self) (model.view.ledger w.server.self)
    linked = holds.joint.linked

    one_phase : here.phase ≡ there.phase
    one_phase = same_phase w holds rest

    -- "one end may still send a message other than NOOP and CLOSE"
    speaking : MaySend prog model.view (side w (next_end here)).self (next_call here)
    unfolding turn
    speaking = from_fresh (eqb here.phase fresh) refl
      where
        producer_end : End
        producer_end = producing Client here.flow

        spoken : (is-fresh is-offer is-batch : Bool) → Type 0
        spoken is-fresh is-offer is-batch =
            MaySend prog model.view (side w (cond (is-fresh || is-offer) Client (cond is-batch producer_end Server))).self
            (cond is-fresh (OPEN pipe_a) (cond is-offer (READY here.n) (cond is-batch (DATA empty_datum) (READY 1))))

        by_client : (call : Call) → Speaks here call → MaySend prog model.view w.client.self call
        by_client call speaks = speaks_sent laws w.client.self call holds.joint.fine speaks

        by_server : (call : Call) → Speaks there call → MaySend prog model.view w.server.self call
        by_server call speaks = speaks_sent laws w.server.self call holds.joint.fine_across speaks

        in_batch : here.phase ≡ batch → (end : End) → producer_end ≡ end → MaySend prog model.view (side w end).self (DATA empty_datum)
        in_batch batching Client mine =
            by_client (DATA empty_datum) (gives_data Client here linked.here.sound linked.here.role mine batching)
        in_batch batching Server mine =
            let settled = linked.there.settled (omega (arith, one_phase), omega (arith, one_phase)) in
            by_server (DATA empty_datum)
            (gives_data Server there linked.there.sound linked.there.role
            (settled.produced ∙ ap (producing Client) (sym linked.here.flows) ∙ mine) (sym one_phase ∙ batching))

        from_batch : (t : Bool) → eqb here.phase batch ≡ t → (here.phase ≡ fresh → ⊥) → (here.phase ≡ offer → ⊥) → spoken false false t
        from_batch true batching later neither = in_batch (eqb-true here.phase batch batching) producer_end refl
        from_batch false other later neither =
            let among = one_or_two here.phase (low w holds rest) later neither (eqb-false here.phase batch other) in
            by_server (READY 1)
            (offers_one Server there linked.there.sound linked.there.role refl (omega (arith, among.0, one_phase))
            (omega (arith, among.1, one_phase)))

        from_offer : (t : Bool) → eqb here.phase offer ≡ t → (here.phase ≡ fresh → ⊥) → spoken false t (eqb here.phase batch)
        from_offer true offered later =
            by_client (READY here.n) (takes_all Client here linked.here.sound linked.here.role refl (eqb-true here.phase offer offered))
        from_offer false other later = from_batch (eqb here.phase batch) refl later (eqb-false here.phase offer other)

        from_fresh : (t : Bool) → eqb here.phase fresh ≡ t → spoken t (eqb here.phase offer) (eqb here.phase batch)
        from_fresh true begins =
            by_client (OPEN pipe_a)
            (opens_first Client here linked.here.sound linked.here.role refl (eqb-true here.phase fresh begins))
        from_fresh false other = from_offer (eqb here.phase offer) refl (eqb-false here.phase fresh other)

pub invariant_holds : InvariantHolds
invariant_holds A O prog model laws w holds =
    clauses_hold prog model w holds laws.recorded
    (λ end m rest queued.
    let at = joint prog model laws w holds end in
    head_answered prog model laws w holds end at.from_across refl m rest (sym at.linked.there.queued ∙ queued))
    (short_answered prog model laws w holds) (speaking prog model laws w holds)

-- and every list of calls keeps the invariant
run_keeps : {A O : Type 0} (prog : Program A O) (model : Model A) → Laws prog model → (w : World A) (events : List (Event O)) → AllFit prog w events
    → Invariant model w → Invariant model (run prog w events)
unfolding run
run_keeps prog model laws w [] fit holds = holds
run_keeps prog model laws w (event ∷ rest) fit holds =
    run_keeps prog model laws (step prog w event) rest fit.1 (step_keeps _ _ prog model laws w event fit.0 holds)

pub laws_suffice : LawsSuffice
laws_suffice A O prog model laws makings client server fresh server-fresh events fit =
    invariant_holds A O prog model laws (run prog (begun client server) events)
    (run_keeps prog model laws (begun client server) events fit (start_keeps A O prog model laws makings client server fresh server-fresh))

-- demand 3
pub demand : Demand
demand = laws_suffice Endpoint ℕ tables on_records tables_laws
