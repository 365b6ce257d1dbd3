-- A program that does on its states what another one does on the states that they hold has the laws that the other has. Assumes nothing.
use mathlib.Core.Path.{◌≡◌, ◌∙◌, ap, subst, sym}
use Prim.Native.Nat.{ℕ, ◌≤◌}
use mathlib.Core.List.{List}
use native.Mathlib.Omega.{arith}
use Rattle.open.specs.Offer.{Offer}
use Rattle.endpoint.specs.declared.Endpoint.{Endpoint}
use Rattle.endpoint.specs.declared.Entry.{Entry}
use Rattle.sending.specs.Calls.{Call, OPEN}
use Rattle.machine.specs.Good.{Fits}
use Rattle.machine.specs.Programs.{Making, Queued, ReceiveOutcome, ignored, Program}
use Rattle.session.specs.World.{viewed_side}
use Rattle.session.specs.Packets.{queued_in, Called}
use Rattle.session.specs.Demand.{Ledger}
use Rattle.session.specs.Invariant.{Model}
use Rattle.session.specs.Laws.{Comes, Laws}

-- an outcome, and the one on what its state holds
pub record Alike {A B : Type 0} (load : A → B) (result : ReceiveOutcome A) (inner : ReceiveOutcome B) : Type 0 where
  pub number : result.number ≡ inner.number
  pub told : result.told ≡ inner.told
  pub replied : result.replied ≡ inner.replied
  pub next : load result.next ≡ inner.next

-- what is known of the states that are held
abbrev pub held_by : {A B : Type 0} → (A → B) → Model B → Model A
held_by load model =
    record {
      view = record { endpoint = λ self. model.view.endpoint (load self); ledger = λ self. model.view.ledger (load self) };
      Fine = λ self. model.Fine (load self);
      rules = model.rules;
    }

module _ {A B O P : Type 0} (prog : Program A O) (inner : Program B P) (load : A → B) (into : O → P) (model : Model B) where
  pub record Follows : Type 0 where
    pub room : (out : O) → prog.room out ≡ inner.room (into out)
    -- where it makes, the other does, and that is what is held
    pub makes : (self : A) (making : Making) → (prog.make self making).number ≡ 0
        → ((inner.make (load self) making).number ≡ 0)
        × (model.Fine (inner.make (load self) making).next → load (prog.make self making).next ≡ (inner.make (load self) making).next)
    pub numbered : (self : A) (call : Call) (out : O) → Fits call → (prog.send self call out).number ≡ (inner.send (load self) call (into out)).number
    pub writes : (self : A) (call : Call) (out : O) → model.Fine (load self) → Fits call → (inner.send (load self) call (into out)).number ≡ 0
        → model.Fine (inner.send (load self) call (into out)).next
        → ((prog.send self call out).bytes ≡ (inner.send (load self) call (into out)).bytes)
        × (load (prog.send self call out).next ≡ (inner.send (load self) call (into out)).next)
    pub stays : (self : A) (call : Call) (out : O) → model.Fine (load self) → Fits call → ((prog.send self call out).number ≡ 0 → ⊥)
        → (prog.send self call out).next ≡ self
    pub receives : (self : A) (m : Queued) (pipe : Offer) (out : O) → model.Fine (load self) → 14 ≤ prog.room out
        → model.Fine (inner.receive (load self) m pipe (into out)).next
        → Alike load (prog.receive self m pipe out) (inner.receive (load self) m pipe (into out))
    -- 2 and 3 change nothing at all
    pub ignores : (self : A) (m : Queued) (pipe : Offer) (out : O) (number : ℕ) → (2 ≤ number) × (number ≤ 3)
        → inner.receive (load self) m pipe (into out) ≡ ignored number (load self)
        → prog.receive self m pipe out ≡ ignored number self

  module _ (follows : Follows) (laws : Laws inner model) where
    -- what is known of what is held is known of the state that holds it

    fine_held : {x : A} {y : B} → load x ≡ y → model.Fine y → model.Fine (load x)
    fine_held same fine = subst model.Fine (sym same) fine

    comes_held : {e : Endpoint} {phase n limit : ℕ} {x : A} {y : B} → load x ≡ y → Comes e phase n limit (model.view.endpoint y)
        → Comes e phase n limit (model.view.endpoint (load x))
    comes_held same comes = rw same comes

    due_held : (entries : Ledger → List Entry) {x : A} {y : B} → load x ≡ y
        → entries (model.view.ledger (load x)) ≡ entries (model.view.ledger y)
    due_held entries same = ap (λ (inside : B). entries (model.view.ledger inside)) same

    pub follows_laws : Laws prog (held_by load model)
    follows_laws =
        record {
          begins = λ self making fresh.
              laws.begins (load self) making (record { given = fresh.given; holds = fresh.holds; none_due = fresh.none_due });
          makes = λ self making accepts.
              let both = follows.makes self making accepts in
              let there = laws.makes (load self) making both.0 in
              let same = both.1 (laws.begins _ making there) in
              record {
                given = there.given;
                holds = ap model.view.endpoint same ∙ there.holds;
                none_due = ap model.view.ledger same ∙ there.none_due;
              };
          moves = λ self call out fine fits accepts.
              let inner-accepts = sym (follows.numbered self call out fits) ∙ accepts in
              let there = laws.moves (load self) call (into out) fine fits inner-accepts in
              let same = follows.writes self call out fine fits inner-accepts there.fine in
              record {
                packet = there.packet;
                queued = rw same.0 there.queued;
                proper = there.proper;
                carried = there.carried;
                readied = there.readied;
                confirmless = there.confirmless;
                sends = there.sends;
                silent = there.silent;
                phase = there.phase;
                n = there.n;
                leads = there.leads;
                fine = fine_held same.1 there.fine;
                comes = comes_held same.1 there.comes;
                awaits = λ line goes. due_held (λ dues. dues.waits line) same.1 ∙ there.awaits line goes;
                left = there.left;
                files = there.files;
                owes = λ line goes. due_held (λ dues. dues.owes line) same.1 ∙ there.owes line goes;
              };
          stays = follows.stays;
          hears = λ makings end self m pipe out phase n rest fine enough may.
              let room : 14 ≤ inner.room (into out) = rw (← (follows.room out)) enough in
              let there = laws.hears makings end (load self) m pipe (into out) phase n rest fine room may in
              let same = follows.receives self (queued_in m) pipe out fine enough there.fine in
              record {
                answered = same.number ∙ there.answered;
                told = same.told ∙ there.told;
                replied = same.replied ∙ there.replied;
                fine = fine_held same.next there.fine;
                comes = comes_held same.next there.comes;
                awaits = λ line goes. due_held (λ dues. dues.waits line) same.next ∙ there.awaits line goes;
                left = there.left;
                balance = there.balance;
                owes = λ line goes. due_held (λ dues. dues.owes line) same.next ∙ there.owes line goes;
              };
          refuses = λ makings x y e asked pipe out fine enough may.
              let room : 14 ≤ inner.room (into out) = rw (← (follows.room out)) enough in
              let there = laws.refuses makings (viewed_side load x) y e asked pipe (into out) fine room may in
              let same = follows.receives x.self (queued_in (Called e (OPEN asked))) pipe out fine enough there.fine in
              record {
                may = rw same.number there.may;
                refused = rw same.number there.refused;
                told = same.told ∙ there.told;
                code = there.code;
                small = there.small;
                replied = same.replied ∙ there.replied;
                fine = fine_held same.next there.fine;
                after = ap model.view.endpoint same.next ∙ there.after;
              };
          late = λ self m pipe out fine enough is-shut.
              follows.ignores self m pipe out 3 (omega arith, omega arith)
              (laws.late (load self) m pipe (into out) fine (rw (← (follows.room out)) enough) is-shut);
          short = λ self m pipe out fine few.
              follows.ignores self m pipe out 2 (omega arith, omega arith)
              (laws.short (load self) m pipe (into out) fine (rw (← (follows.room out)) few));
          bounded = λ self. laws.bounded (load self);
          recorded = λ self. laws.recorded (load self);
          lines = laws.lines;
          sends = λ self call fine may fits out enough.
              let there = laws.sends (load self) call fine may fits (into out) (rw (← (follows.room out)) enough) in
              let next-fine = (laws.moves (load self) call (into out) fine fits there.0).fine in
              (follows.numbered self call out fits ∙ there.0, (follows.writes self call out fine fits there.0 next-fine).0 ∙ there.1);
        }
