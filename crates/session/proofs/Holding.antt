-- Where the invariant holds, each clause of the demand does that speaks of no answer: good states, how the ends have closed, what is accepted and
-- agreed, what is accounted for, and both ends at rest. The clauses on answers, on room and on what may be sent are given. Assumes nothing.
use mathlib.Core.Path.{◌≡◌, refl, sym, ◌∙◌, ap, subst}
use Prim.Native.Nat.{ℕ, ◌≤◌, ◌+◌, ◌<◌}
use mathlib.Core.List.{[], ◌∷◌, List, ◌++◌, append-nil, map, flat_map}
use native.Mathlib.Omega.{arith}
use lib.ListN.{length, length-append}
use Rattle.bytes_be.proofs.Tests.{clash}
use Rattle.open.specs.Offer.{Offer}
use Rattle.endpoint.specs.declared.Endpoint.{Endpoint}
use Rattle.endpoint.specs.declared.Entry.{Entry}
use Rattle.endpoint.specs.Record.{awaited, batch, reports_in}
use Rattle.machine.specs.Programs.{Program, Queued}
use Rattle.session.specs.World.{End, across, Client, Server, Ending, Side, World, side, step}
use Rattle.session.specs.World.{viewed_side, Going, HeardClose, WroteClose, receives}
use Rattle.session.specs.Turns.{Stage, stage_of, Standing, Listens, stands, standing, Converge, ClosedByOther, ClosedByItself}
use Rattle.session.specs.Demand.{MaySend, MayAnswer, PhaseFits, agreed, sum, next_end, next_call, AtRest, Holds}
use Rattle.session.specs.Invariant.{Model, Delivers, source, Linked, Joint, Invariant}
use Rattle.session.specs.Packets.{Packet, queued_in, data_in, ready_in}
use Rattle.session.specs.Confirmations.{asked_in, confirmed_in, confirms_in}
use Rattle.session.proofs.Turns.{rests_converge, shut_across, shut_converge, close_converge}
use Rattle.session.proofs.Step.{seen_from}
use Rattle.session.proofs.Accounts.{accounts_hold, is_open}

-- where nothing is queued, nothing is on its way
none_queued : (q : List Packet) → map queued_in q ≡ [] → q ≡ []
none_queued [] none = refl
none_queued (m ∷ q) none = clash cc

-- an end that has not itself closed listens
listens_still : (x : Side Endpoint) → (x.past.ending ≡ WroteClose → ⊥) → Listens (standing x)
listens_still x = go x.past.ending
  where
    go : (ending : Ending) → (ending ≡ WroteClose → ⊥) → Listens (stands ending x.self)
    go Going still = tt
    go HeardClose still = tt
    go WroteClose still = absurd (still refl)

-- what was sent is heard where nothing is on its way to an end that listens
all_heard : {A : Type 0} (carried : Packet → List A) {sent heard : List A} {p : List Packet} {b : Standing} → Delivers carried sent p b heard
    → Listens b → p ≡ [] → heard ≡ sent
unfolding flat_map
all_heard {A = A} carried {heard = heard} delivers listens none =
    sym
    (delivers.whole ∙ ap (λ (rest : List A). heard ++ rest) (delivers.due listens ∙ ap (flat_map carried) none) ∙ append-nil heard)

-- how an end has ended, by where it stands
wrote_close : (x : Side Endpoint) → standing x ≡ ClosedByItself → x.past.ending ≡ WroteClose
wrote_close x = go x.past.ending
  where
    go : (ending : Ending) → stands ending x.self ≡ ClosedByItself → ending ≡ WroteClose
    go Going same = clash cc
    go HeardClose same = clash cc
    go WroteClose same = refl

module _ {A : Type 0} {model : Model A} (w : World A) (holds : Invariant model w) where
  abbrev seen : Side A → Side Endpoint
  seen x = viewed_side model.view.endpoint x

  joint : (end : End) → Joint holds.makings model end (side w end) (side w (across end))
  joint end = seen_from end w holds

  -- "and never more than the batches agreed"
  all_within : length w.client.past.accepted + length w.server.past.accepted ≤ sum (agreed Client w.client.past)
  all_within =
      let linked = holds.joint.linked in
      let whole = ap length linked.delivers.whole ∙ length-append w.server.past.accepted linked.delivers.rest in
      omega (arith, linked.here.counted.within.in_all, whole)

  module _ (rest : AtRest w) where
    -- nothing is on its way
    none_here : (end : End) → (joint end).from_here ≡ []
    none_here end = none_queued (joint end).from_here (sym (joint end).linked.here.queued ∙ rest.none_coming end)

    none_across : (end : End) → (joint end).from_across ≡ []
    none_across end = none_queued (joint end).from_across (sym (joint end).linked.there.queued ∙ rest.none_coming (across end))

    -- what is awaited is what is owed
    awaits_owed : (end : End) (line : ℕ)
        → (model.view.ledger (side w end).self).waits line ≡ (model.view.ledger (side w (across end)).self).owes line
    unfolding flat_map
    awaits_owed end line =
        let waits = (joint end).linked.awaits line in
        let owes : List Entry = (model.view.ledger (side w (across end)).self).owes line in
        waits.held (is_open (seen (side w end)) (rest.going end))
        ∙ ap (λ (q : List Packet). flat_map (λ (m : Packet). model.rules.pick line (confirmed_in m)) q ++ waits.rest) (none_across end)
        ∙ waits.due (is_open (seen (side w (across end))) (rest.going (across end)))
        ∙ ap (λ (p : List Packet). owes ++ flat_map (λ (m : Packet). model.rules.pick line (asked_in m)) p) (none_here end)
        ∙ append-nil owes

    abbrev here : Endpoint
    here = model.view.endpoint w.client.self

    abbrev there : Endpoint
    there = model.view.endpoint w.server.self

    abbrev linked : Linked holds.makings model.rules Client (seen w.client) (seen w.server) holds.joint.from_here holds.joint.from_across
        (model.view.ledger w.client.self) (model.view.ledger w.server.self)
    linked = holds.joint.linked

    -- both ends are at one stage
    same_stage : stage_of here ≡ stage_of there
    same_stage =
        let none = none_queued holds.joint.from_here (sym linked.here.queued ∙ rest.none_coming Client) in
        let none-back = none_queued holds.joint.from_across (sym linked.there.queued ∙ rest.none_coming Server) in
        rests_converge (source holds.makings) Client
        (rw (rest.going Client, rest.going Server, none, none-back) at linked.converge)

    pub same_phase : here.phase ≡ there.phase
    same_phase = ap (λ (s : Stage). s.phase) same_stage

    pub low : here.phase ≤ batch
    low = subst (λ (ending : Ending). PhaseFits ending here.phase) (rest.going Client) linked.here.ends

-- how the ends have closed
module _ {A : Type 0} {model : Model A} (w : World A) (holds : Invariant model w) (end : End) where
  abbrev at : Joint holds.makings model end (side w end) (side w (across end))
  at = seen_from end w holds

  abbrev seen_end : End → Side Endpoint
  seen_end which = viewed_side model.view.endpoint (side w which)

  module _ (closing : (side w end).past.ending ≡ HeardClose) where
    shut_there : Converge (source holds.makings) end ClosedByOther at.from_here (standing (seen_end (across end))) at.from_across
    shut_there = rw (ap (λ (ending : Ending). stands ending (seen_end end).self) closing) at at.linked.converge

    none_behind : (side w (across end)).queue ≡ []
    none_behind = at.linked.there.queued ∙ ap (map queued_in) (shut_converge (source holds.makings) end shut_there)

    other_wrote : (side w (across end)).past.ending ≡ WroteClose
    other_wrote = wrote_close (seen_end (across end)) (shut_across (source holds.makings) end shut_there)

  arrives : (side w end).past.ending ≡ WroteClose → (side w end).queue ≡ [] → (side w (across end)).past.ending ≡ Going → ⊥
  arrives wrote none going =
      let gone = ap (λ (ending : Ending). stands ending (seen_end end).self) wrote in
      let still = ap (λ (ending : Ending). stands ending (seen_end (across end)).self) going in
      let empty-queue = none_queued at.from_here (sym at.linked.here.queued ∙ none) in
      close_converge (source holds.makings) end (rw (gone, still, empty-queue) at at.linked.converge)

  all_arrived : ((side w end).past.ending ≡ WroteClose → ⊥) → (side w (across end)).queue ≡ []
      → ((side w end).past.accepted ≡ (side w (across end)).past.sent) × ((side w end).past.readies_heard ≡ (side w (across end)).past.readies)
      × ((side w end).past.confirmations_heard ≡ (side w (across end)).past.confirmations)
  all_arrived still none =
      let listens = listens_still (seen_end end) still in
      let empty-queue = none_queued at.from_across (sym at.linked.there.queued ∙ none) in (
        all_heard data_in at.linked.delivers_across listens empty-queue,
        all_heard ready_in at.linked.readies_across listens empty-queue,
        all_heard confirms_in at.linked.confirmations_across listens empty-queue,
      )

-- the clauses on answers, on room and on what may be sent, and with them all
module _ {A O : Type 0} (prog : Program A O) (model : Model A) (w : World A) (holds : Invariant model w) where
  pub clauses_hold : ((self : A) → model.Fine self → reports_in ((model.view.ledger self).waits 0) ≡ reports_in (awaited (model.view.endpoint self)))
      → ((end : End) (m : Queued) (rest : List Queued) → (side w (across end)).queue ≡ m ∷ rest
      → (pipe : Offer) (out : O) → 14 ≤ prog.room out
      → MayAnswer (viewed_side model.view.endpoint (side w end)) (viewed_side model.view.endpoint (side w (across end))) m.bytes pipe
      (prog.receive (side w end).self m pipe out).number)
      → ((end : End) (m : Queued) (rest : List Queued) → (side w (across end)).queue ≡ m ∷ rest
      → (pipe : Offer) (out : O) → prog.room out < 14
      → ((prog.receive (side w end).self m pipe out).number ≡ 2) × (step prog w (receives end pipe out) ≡ w))
      → (AtRest w
      → MaySend prog model.view (side w (next_end (model.view.endpoint w.client.self))).self
      (next_call (model.view.endpoint w.client.self)))
      → Holds prog model.view w
  clauses_hold recorded answers no_room may_send =
      record {
        stays_good = λ end. (joint w holds end).linked.here.sound.is-good;
        answers = answers;
        no_room = no_room;
        closed_by_phase = λ end. (joint w holds end).linked.here.ends;
        close_was_written = other_wrote w holds;
        nothing_after_close = none_behind w holds;
        close_arrives = arrives w holds;
        data_leads = λ end. let back = (joint w holds end).linked.delivers_across in (back.rest, sym back.whole);
        readies_lead = λ end. let back = (joint w holds end).linked.readies_across in (back.rest, sym back.whole);
        nothing_lost = all_arrived w holds;
        within = all_within w holds;
        within_own = λ end. omega (arith, (joint w holds end).linked.here.counted.within.in_all);
        within_newest = λ end. omega (arith, (joint w holds end).linked.here.counted.within.in_newest);
        within_offers = λ end. (joint w holds end).linked.here.counted.taken.each;
        same_at_rest = λ rest.
            let same = same_stage w holds rest in
            (ap (λ (s : Stage). s.phase) same, ap (λ (s : Stage). s.n) same);
        awaits_what_is_owed = awaits_owed w holds;
        accounted = λ end. accounts_hold w holds end (recorded (side w end).self (joint w holds end).fine);
        may_send = may_send;
      }
