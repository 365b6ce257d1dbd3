-- Every call of a program that has the laws keeps the invariant. Assumes nothing.
use mathlib.Core.Path.{◌≡◌, refl, sym, ◌∙◌, subst}
use Prim.Native.Nat.{ℕ, ◌≤◌}
use mathlib.Core.List.{List, [], ◌∷◌, ◌++◌, map, append-nil}
use mathlib.Core.Bool.{Bool, true, false}
use lib.Dec.{eqb, ltb}
use borrow.Author.Tests.{eqb-true, eqb-false, ltb-false, ltb-true}
use Rattle.bytes_be.proofs.Tests.{clash}
use Rattle.open.specs.Offer.{Offer}
use Rattle.endpoint.specs.declared.Endpoint.{Endpoint}
use Rattle.endpoint.specs.Record.{shut}
use Rattle.sending.specs.Calls.{Call}
use Rattle.sending.specs.Options.{how_of}
use Rattle.machine.specs.Good.{Fits}
use Rattle.machine.specs.Programs.{Program, Queued, SendOutcome, ReceiveOutcome}
use Rattle.machine.specs.Runs.{is_kept, Sends, Receives}
use Rattle.session.specs.World.{End, across, Makings, making_of, Ending, after_call, Side, World, EventFits, side, joined, with_queue, acted, after_receive}
use Rattle.session.specs.World.{step, viewed_side, Client, Server, Going, HeardClose, WroteClose, sends, receives, makes}
use Rattle.session.specs.Packets.{Packet, queued_in, bytes_in, row_message, Closes}
use Rattle.session.specs.Turns.{kind_of, Moves, stage_of, Standing, stands, standing, Hears, Converge, At, ClosedByItself, late}
use Rattle.session.specs.Demand.{MayAnswer, PhaseFits, heard, other_pipe, other_format, after_own_close}
use Rattle.session.specs.Invariant.{Model, source, Linked, Joint, Invariant}
use Rattle.session.specs.Laws.{Laws, SentOn, answers_in, offered_in, OpenRefused, StartKeeps, StepKeeps}
use Rattle.session.proofs.Table.{phase_in, n_in}
use Rattle.session.proofs.Turns.{shut_hears, hears_converge}
use Rattle.session.proofs.Packets.{OpenOrOther, an_open, another, open_or_other}
use Rattle.session.proofs.Ends.{fresh_joint, wrote}
use Rattle.session.proofs.Link.{across_linked, sent_linked}
use Rattle.session.proofs.Hearing.{leads, clients_open, moves, head_may, heard_linked, refused_linked, late_linked, heard_noted, refused_noted}

-- what an end may answer to a message takes it from its queue
answer_takes : {x y : Side Endpoint} {s : List ℕ} {pipe : Offer} {number : ℕ} → MayAnswer x y s pipe number → is_kept number ≡ false
answer_takes heard = refl
answer_takes (other_pipe asked as_written differs) = refl
answer_takes (other_format asked as_written differs) = refl
answer_takes (after_own_close wrote) = refl

gone_hears : (from end : End) {m : Packet} {a : Standing} → Hears from end ClosedByItself m a → a ≡ ClosedByItself
gone_hears from end late = refl

-- the same two ends, seen from the other
joint_across : {A : Type 0} (makings : Makings) (model : Model A) (end : End) (x y : Side A) → Joint makings model end x y
    → Joint makings model (across end) y x
joint_across makings model end x y joint =
    record {
      from_here = joint.from_across;
      from_across = joint.from_here;
      linked = across_linked makings model end _ _ joint.from_here joint.from_across _ _ joint.linked;
      fine = joint.fine_across;
      fine_across = joint.fine;
    }

pub seen_from : {A : Type 0} {model : Model A} (end : End) (w : World A) (holds : Invariant model w)
    → Joint holds.makings model end (side w end) (side w (across end))
seen_from Client w holds = holds.joint
seen_from {model = model} Server w holds = joint_across holds.makings model Client w.client w.server holds.joint

seen_as : {A : Type 0} (makings : Makings) (model : Model A) (end : End) (x y : Side A) → Joint makings model end x y
    → Invariant model (joined end x y)
seen_as makings model Client x y joint = record { makings = makings; joint = joint }
seen_as makings model Server x y joint = record { makings = makings; joint = joint_across makings model Server x y joint }

module _ {A O : Type 0} (prog : Program A O) (model : Model A) (laws : Laws prog model) where
  abbrev seen : Side A → Side Endpoint
  seen x = viewed_side model.view.endpoint x

  module _ (makings : Makings) where
    abbrev LinkedAs : End → Side A → Side A → List Packet → List Packet → Type 0
    LinkedAs end x y p q = Linked makings model.rules end (seen x) (seen y) p q (model.view.ledger x.self) (model.view.ledger y.self)

    -- the head of a queue is heard, refused as an OPEN for what is not offered, or passed over after an own close
    pub record Delivered (end : End) (x y : Side A) (m : Packet) (q : List Packet) (pipe : Offer) (out : O) : Type 0 where
      pub may : MayAnswer (seen x) (seen y) (bytes_in m) pipe (prog.receive x.self (queued_in m) pipe out).number
      pub delivered : Joint makings model end (acted prog end x (Receives (queued_in m) pipe out)) (with_queue y (map queued_in q))

    module _ (end : End) (x y : Side A) (p q : List Packet) (m : Packet) (linked : LinkedAs end x y p (m ∷ q)) (fine : model.Fine x.self)
        (fine_across : model.Fine y.self) (pipe : Offer) (out : O) (enough : 14 ≤ prog.room out) where
      abbrev result : ReceiveOutcome A
      result = prog.receive x.self (queued_in m) pipe out

      -- an OPEN for what is not offered
      refused_delivered : x.past.ending ≡ Going → kind_of (row_message m) ≡ Moves → OpenRefused model (seen x) (seen y) (bytes_in m) pipe result
          → Delivered end x y m q pipe out
      refused_delivered going moving refusal =
          let noted = refused_noted model end x m result refusal.code refusal.refused refusal.told refusal.replied in
          record {
            may = refusal.may;
            delivered =
                record {
                  from_here = p ++ (Closes refusal.code ∷ []);
                  from_across = q;
                  linked =
                      rw (noted, refusal.after)
                      (refused_linked makings model laws.lines end (seen x) (seen y) p q m _ _ linked going refusal.code _ refusal.small moving);
                  fine = refusal.fine;
                  fine_across = fine_across;
                };
          }

      heard_delivered : x.past.ending ≡ Going → (a : Standing) → Hears (source makings) end (At (stage_of (seen x).self)) m a
          → Converge (source makings) end a p (standing (seen y)) q → offered_in m (seen x).self pipe ≡ true
          → Delivered end x y m q pipe out
      heard_delivered going a hears converge offers =
          let may = head_may makings model laws.lines end (seen x) (seen y) p q m _ _ linked going a hears pipe offers in
          let taken = laws.hears makings end x.self m pipe out (phase_in a) (n_in a) _ fine enough may in
          let noted = heard_noted model end x m result makings linked.there.proper.0 taken.answered taken.told taken.replied going in
          record {
            may = rw taken.answered heard;
            delivered =
                record {
                  from_here = p ++ answers_in model.rules.prompt m;
                  from_across = q;
                  linked =
                      rw noted
                      (heard_linked makings model laws.lines end (seen x) (seen y) p q m _ _ linked going a hears result taken pipe offers converge);
                  fine = taken.fine;
                  fine_across = fine_across;
                };
          }

      late_delivered : x.past.ending ≡ WroteClose → (a : Standing) → a ≡ ClosedByItself → Converge (source makings) end a p (standing (seen y)) q
          → Delivered end x y m q pipe out
      late_delivered wrote a gone converge =
          let is_shut : (seen x).self.phase ≡ shut = subst (λ (ending : Ending). PhaseFits ending (seen x).self.phase) wrote linked.here.ends in
          let passed = laws.late x.self (queued_in m) pipe out fine enough is_shut in
          record {
            may = rw passed (after_own_close wrote);
            delivered =
                record {
                  from_here = p;
                  from_across = q;
                  linked =
                      simp (passed, append-nil)
                      (late_linked makings model laws.lines end (seen x) (seen y) p q m _ _ linked wrote (rw gone at converge));
                  fine = subst (λ (after : ReceiveOutcome A). model.Fine after.next) (sym passed) fine;
                  fine_across = fine_across;
                };
          }

    -- a packet that is not offered is an OPEN to a server
    unoffered_delivered : (end : End) (x y : Side A) (p q : List Packet) (m : Packet) → OpenOrOther m
        → (linked : LinkedAs end x y p (m ∷ q)) (fine : model.Fine x.self) (fine_across : model.Fine y.self) (pipe : Offer) (out : O)
        → 14 ≤ prog.room out → (going : x.past.ending ≡ Going) → (a : Standing) → Hears (source makings) end (At (stage_of (seen x).self)) m a
        → offered_in m (seen x).self pipe ≡ false → Delivered end x y m q pipe out
    unoffered_delivered Client x y p q m (an_open e asked) linked fine fine_across pipe out enough going a hears differs =
        absurd (clients_open (moves makings model laws.lines Client (seen x) (seen y) p q m _ _ linked going a hears))
    unoffered_delivered Server x y p q m (an_open e asked) linked fine fine_across pipe out enough going a hears differs =
        refused_delivered Server x y p q m linked fine fine_across pipe out enough going refl
        (laws.refuses makings x (seen y) e asked pipe out fine enough
        (record {
          sound = linked.here.sound;
          serves = linked.here.role;
          accepted = linked.there.proper.0;
          same_flow = linked.there.flows ∙ sym linked.there.proper.0.flows;
          same_limit = (linked.there.settled tt).limited ∙ sym linked.there.proper.0.limited;
          phase = phase_in a;
          n = n_in a;
          leads = rw linked.here.role (leads makings model laws.lines Server (seen x) (seen y) p q m _ _ linked going a hears);
          differs = differs;
        }))
    unoffered_delivered end x y p q m (another later always stays) linked fine fine_across pipe out enough going a hears differs =
        let both : true ≡ false = sym (always (seen x).self pipe) ∙ differs in
        clash cc

    module _ (end : End) (x y : Side A) (p q : List Packet) (m : Packet) (linked : LinkedAs end x y p (m ∷ q)) (fine : model.Fine x.self)
        (fine_across : model.Fine y.self) (pipe : Offer) (out : O) (enough : 14 ≤ prog.room out) where
      pub head_delivered : Delivered end x y m q pipe out
      head_delivered =
          let step = hears_converge (source makings) end linked.converge in
          by_ending x.past.ending refl step.0 step.1 step.2
        where
          by_offer : x.past.ending ≡ Going → (a : Standing) → Hears (source makings) end (At (stage_of (seen x).self)) m a
              → Converge (source makings) end a p (standing (seen y)) q
              → (t : Bool) → offered_in m (seen x).self pipe ≡ t → Delivered end x y m q pipe out
          by_offer going a hears converge true offers =
              heard_delivered end x y p q m linked fine fine_across pipe out enough going a hears converge offers
          by_offer going a hears converge false differs =
              unoffered_delivered end x y p q m (open_or_other m) linked fine fine_across pipe out enough going a hears differs

          by_ending : (ending : Ending) → x.past.ending ≡ ending → (a : Standing) → Hears (source makings) end (stands ending (seen x).self) m a
              → Converge (source makings) end a p (standing (seen y)) q → Delivered end x y m q pipe out
          by_ending Going going a hears converge = by_offer going a hears converge (offered_in m (seen x).self pipe) refl
          by_ending HeardClose shut-down a hears converge = absurd (shut_hears (source makings) hears)
          by_ending WroteClose wrote a hears converge =
              late_delivered end x y p q m linked fine fine_across pipe out enough wrote a (gone_hears (source makings) end hears) converge

    -- the queue of y, as the packets that it holds, is received by x
    received_keeps : (end : End) (x y : Side A) (p q : List Packet) → y.queue ≡ map queued_in q → LinkedAs end x y p q → model.Fine x.self
        → model.Fine y.self → (pipe : Offer) (out : O) → Invariant model (after_receive prog end x y (map queued_in q) pipe out)
    unfolding after_receive
    received_keeps end x y p [] queued linked fine fine_across pipe out =
        seen_as makings model end x y (record { from_here = p; from_across = []; linked = linked; fine = fine; fine_across = fine_across })
    received_keeps end x y p (m ∷ q) queued linked fine fine_across pipe out = go (ltb (prog.room out) 14) refl
      where
        go : (t : Bool) → ltb (prog.room out) 14 ≡ t → Invariant model (after_receive prog end x y (map queued_in (m ∷ q)) pipe out)
        go true short =
            simp (laws.short x.self (queued_in m) pipe out fine (ltb-true _ _ short), append-nil, ← queued)
            (seen_as makings model end x y (record { from_here = p; from_across = m ∷ q; linked = linked; fine = fine; fine_across = fine_across }))
        go false room =
            let head = head_delivered end x y p q m linked fine fine_across pipe out (ltb-false _ _ room) in
            rw (answer_takes head.may) (seen_as makings model end _ _ head.delivered)

    -- a send that is accepted
    accepted_joint : (end : End) (x y : Side A) (p q : List Packet) → LinkedAs end x y p q → model.Fine y.self → (call : Call)
        (result : SendOutcome A) → SentOn model (seen x).self (model.view.ledger x.self) call result
        → Joint makings model end
        (record { self = result.next; queue = x.queue ++ (record { bytes = result.bytes; how = how_of call } ∷ []); past = after_call end x.past call })
        y
    accepted_joint end x y p q linked fine_across call result sent =
        record {
          from_here = p ++ (sent.packet ∷ []);
          from_across = q;
          linked =
              subst
              (λ (m : Queued). Linked makings model.rules end (wrote end (seen x) call m (model.view.endpoint result.next)) (seen y)
              (p ++ (sent.packet ∷ [])) q (model.view.ledger result.next) (model.view.ledger y.self))
              (sym sent.queued)
              (sent_linked makings model end (seen x) (seen y) p q _ _ linked laws.lines call result sent (laws.bounded result.next sent.fine));
          fine = sent.fine;
          fine_across = fine_across;
        }

    -- a send, accepted or refused
    sent_keeps : (end : End) (x y : Side A) (p q : List Packet) → LinkedAs end x y p q → model.Fine x.self → model.Fine y.self
        → (call : Call) (out : O) → Fits call → Invariant model (joined end (acted prog end x (Sends call out)) y)
    sent_keeps end x y p q linked fine fine_across call out fits = go (eqb result.number 0) refl
      where
        result : SendOutcome A
        result = prog.send x.self call out

        go : (t : Bool) → eqb result.number 0 ≡ t → Invariant model (joined end (acted prog end x (Sends call out)) y)
        go true accepts =
            let sent = laws.moves x.self call out fine fits (eqb-true _ _ accepts) in
            rw accepts (seen_as makings model end _ y (accepted_joint end x y p q linked fine_across call result sent))
        go false refuses =
            simp (refuses, laws.stays x.self call out fine fits (eqb-false _ _ refuses), append-nil)
            (seen_as makings model end x y (record { from_here = p; from_across = q; linked = linked; fine = fine; fine_across = fine_across }))

  -- both ends made again
  made_keeps : (makings : Makings) (w : World A) → EventFits prog w (makes makings) → Invariant model (step prog w (makes makings))
  unfolding step
  made_keeps makings w may =
      let client = laws.makes w.client.self (making_of makings Client) (may.accepts Client) in
      let server = laws.makes w.server.self (making_of makings Server) (may.accepts Server) in
      let fresh = fresh_joint makings model _ _ (laws.begins _ _ client) (laws.begins _ _ server) client server in
      let quiet : (end : End) → (side w end).queue ++ [] ≡ [] = λ end. rw (may.none_coming end) refl in
      record { makings = makings; joint = rw (may.accepts Client, may.accepts Server, quiet Client, quiet Server) fresh }

pub start_keeps : StartKeeps
start_keeps A O prog model laws makings client server fresh server-fresh =
    let fine = laws.begins client (making_of makings Client) fresh in
    let server-fine = laws.begins server (making_of makings Server) server-fresh in
    record { makings = makings; joint = fresh_joint makings model client server fine server-fine fresh server-fresh }

pub step_keeps : StepKeeps
unfolding step
step_keeps A O prog model laws w (sends end call out) fits holds =
    let joint = seen_from end w holds in
    sent_keeps prog model laws holds.makings end (side w end) (side w (across end)) joint.from_here joint.from_across joint.linked
    joint.fine joint.fine_across call out fits
step_keeps A O prog model laws w (receives end pipe out) fits holds =
    let joint = seen_from end w holds in
    rw joint.linked.there.queued
    (received_keeps prog model laws holds.makings end (side w end) (side w (across end)) joint.from_here joint.from_across
    joint.linked.there.queued joint.linked joint.fine joint.fine_across pipe out)
step_keeps A O prog model laws w (makes makings) fits holds = made_keeps prog model laws makings w fits
