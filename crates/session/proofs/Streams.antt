-- What is asked for, confirmed and carried on the way between two ends: how sending, hearing and closing change it. Assumes nothing.
use mathlib.Core.Path.{◌≡◌, refl, sym, ◌∙◌, ap, ap₂}
use mathlib.Core.List.{List, [], ◌∷◌, ◌++◌, append_assoc, append-nil, flat_map}
use Prim.Native.Nat.{ℕ, ◌+◌, ◌≤◌}
use mathlib.Core.Bool.{Bool, cond, true, false}
use native.Mathlib.Omega.{arith}
use lib.ListN.{length, length-append}
use Rattle.endpoint.specs.declared.Entry.{Entry}
use Rattle.endpoint.specs.Record.{capacity, reports_in}
use Rattle.endpoint.proofs.Reports.{read_off_append, reports_append}
use Rattle.control.specs.declared.MessageType.TheVariants.{Data}
use Rattle.sending.specs.Calls.{Datum, Call, OPEN, READY, DATA, NOOP, CLOSE}
use Rattle.machine.specs.Programs.{Queued}
use Rattle.session.specs.World.{End, Ending, History, data_sent, asked_for, Brought, confirms_by, after_call, after_message}
use Rattle.session.specs.Packets.{Packet, Called, Confirms, Closes, data_in}
use Rattle.session.specs.Turns.{Stage, Standing, IsOpen, Listens, At, ClosedByItself, ClosedByOther}
use Rattle.session.specs.Confirmations.{entry_for, asked_in, confirmed_in, confirms_in, nothing_brought, Accounts, Awaits}
use Rattle.session.specs.Invariant.{Delivers}
use Rattle.session.specs.Laws.{Lines}

module _ {A : Type 0} (taken : Packet → List A) where
  flat_append : (p q : List Packet) → flat_map taken (p ++ q) ≡ flat_map taken p ++ flat_map taken q
  unfolding flat_map
  flat_append [] q = refl
  flat_append (m ∷ p) q = ap (λ (l : List A). taken m ++ l) (flat_append p q) ∙ sym (append_assoc (taken m) (flat_map taken p) (flat_map taken q))

  flat_last : (p : List Packet) (m : Packet) → flat_map taken (p ++ (m ∷ [])) ≡ flat_map taken p ++ taken m
  unfolding flat_map
  flat_last p m = flat_append p (m ∷ []) ∙ ap (λ (l : List A). flat_map taken p ++ l) (append-nil (taken m))

  -- packets of which nothing is taken
  flat_none : (p r : List Packet) → flat_map taken r ≡ [] → flat_map taken (p ++ r) ≡ flat_map taken p
  flat_none p r none = flat_append p r ∙ ap (λ (l : List A). flat_map taken p ++ l) none ∙ append-nil (flat_map taken p)

-- confirmations, on one line

module _ (pick : List Entry → List Entry) where
  abbrev asks : Packet → List Entry
  asks m = pick (asked_in m)

  abbrev confirms : Packet → List Entry
  confirms m = pick (confirmed_in m)

  module _ {entries owes : List Entry} {p q : List Packet} {b : Standing} where
    -- an end sends, and awaits what it asks for
    pub sends_awaits : (s : Stage) (a : Standing) (m : Packet) (after : List Entry) → (IsOpen a → after ≡ entries ++ asks m) → length after ≤ capacity
        → ((IsOpen a → ⊥) → asks m ≡ []) → Awaits pick (At s) entries p b owes q → Awaits pick a after (p ++ (m ∷ [])) b owes q
    sends_awaits s a m after asked bounded silent c =
        record {
          rest = c.rest ++ asks m;
          held = held_so;
          due =
              λ is_open. ap (λ (l : List Entry). l ++ asks m) (c.due is_open)
              ∙ append_assoc owes (flat_map asks p) (asks m)
              ∙ ap (λ (l : List Entry). owes ++ l) (sym (flat_last asks p m));
          few = λ is_open. few_so a is_open held_so silent;
        }
      where
        held_so : IsOpen a → after ≡ flat_map confirms q ++ (c.rest ++ asks m)
        held_so is_open = asked is_open ∙ ap (λ (l : List Entry). l ++ asks m) (c.held tt) ∙ append_assoc (flat_map confirms q) c.rest (asks m)

        quiet : IsOpen b → asks m ≡ [] → length owes + length (flat_map asks (p ++ (m ∷ []))) ≤ capacity
        quiet is_open none = rw (flat_last asks p m, none, append-nil) (c.few is_open)

        few_so : (stands : Standing) → IsOpen b → (IsOpen stands → after ≡ flat_map confirms q ++ (c.rest ++ asks m))
            → ((IsOpen stands → ⊥) → asks m ≡ []) → length owes + length (flat_map asks (p ++ (m ∷ []))) ≤ capacity
        few_so (At t) is_open holds none =
            let whole = ap length (holds tt) ∙ length-append (flat_map confirms q) (c.rest ++ asks m) in
            let more = length-append c.rest (asks m) in
            let due = ap length (c.due is_open) ∙ length-append owes (flat_map asks p) in
            let last = ap length (flat_last asks p m) ∙ length-append (flat_map asks p) (asks m) in
            omega (arith, bounded, whole, more, due, last)
        few_so ClosedByOther is_open holds none = quiet is_open (none (λ closed. closed))
        few_so ClosedByItself is_open holds none = quiet is_open (none (λ closed. closed))

    -- an end hears a packet that confirms its oldest entries, and writes packets that ask for nothing
    pub hears_awaits : (was a : Standing) (m : Packet) (r : List Packet) (after : List Entry) → flat_map asks r ≡ []
        → (c : Awaits pick was entries p b owes (m ∷ q)) → (IsOpen a → after ≡ flat_map confirms q ++ c.rest) → Awaits pick a after (p ++ r) b owes q
    hears_awaits was a m r after none c keeps =
        record {
          rest = c.rest;
          held = keeps;
          due = λ is_open. c.due is_open ∙ ap (λ (l : List Entry). owes ++ l) (sym (flat_none asks p r none));
          few = λ is_open. rw (flat_none asks p r none) (c.few is_open);
        }

    -- an end that has closed awaits nothing
    pub gone_awaits : (a : Standing) (m : Packet) (r : List Packet) (after : List Entry) → flat_map asks r ≡ []
        → Awaits pick a entries p b owes (m ∷ q) → Awaits pick ClosedByItself after (p ++ r) b owes q
    gone_awaits a m r after none c =
        record {
          rest = c.rest;
          held = λ is_open. absurd is_open;
          due = λ is_open. c.due is_open ∙ ap (λ (l : List Entry). owes ++ l) (sym (flat_none asks p r none));
          few = λ is_open. rw (flat_none asks p r none) (c.few is_open);
        }

    -- the other end closes, and writes packets that confirm nothing
    pub across_gone_awaits : (a : Standing) (m : Packet) (r : List Packet) (after : List Entry) → flat_map confirms r ≡ []
        → Awaits pick a entries (m ∷ p) b owes q → Awaits pick a entries p ClosedByItself after (q ++ r)
    across_gone_awaits a m r after none c =
        record {
          rest = c.rest;
          held = λ is_open. c.held is_open ∙ ap (λ (l : List Entry). l ++ c.rest) (sym (flat_none confirms q r none));
          due = λ is_open. absurd is_open;
          few = λ is_open. absurd is_open;
        }

  module _ {entries owes : List Entry} {before p q : List Packet} where
    -- the other end has heard packets that ask for more, and wrote packets that confirm the oldest that it owed then, which leaves it these
    across_awaits : (a b : Standing) (s : Stage) (r : List Packet) (more left after : List Entry) → flat_map asks before ≡ more ++ flat_map asks p
        → flat_map confirms r ++ left ≡ owes ++ more → (IsOpen b → after ≡ left)
        → Awaits pick a entries before (At s) owes q → Awaits pick a entries p b after (q ++ r)
    across_awaits a b s r more left after asked balance keeps c =
        record {
          rest = left ++ flat_map asks p;
          held =
              λ is_open. c.held is_open
              ∙ ap (λ (l : List Entry). flat_map confirms q ++ l)
              (c.due tt
              ∙ ap (λ (l : List Entry). owes ++ l) asked
              ∙ sym (append_assoc owes more (flat_map asks p))
              ∙ ap (λ (l : List Entry). l ++ flat_map asks p) (sym balance)
              ∙ append_assoc (flat_map confirms r) left (flat_map asks p))
              ∙ sym (append_assoc (flat_map confirms q) (flat_map confirms r) (left ++ flat_map asks p))
              ∙ ap (λ (l : List Entry). l ++ (left ++ flat_map asks p)) (sym (flat_append confirms q r));
          due = λ is_open. ap (λ (l : List Entry). l ++ flat_map asks p) (sym (keeps is_open));
          few = λ is_open.
              let now = ap length (keeps is_open) in
              let before-this = ap length asked ∙ length-append more (flat_map asks p) in
              let both = sym (length-append (flat_map confirms r) left) ∙ ap length balance ∙ length-append owes more in
              omega (arith, c.few tt, now, before-this, both);
        }

  module _ {entries owes : List Entry} {p q : List Packet} where
    -- the other end writes a packet that confirms the oldest that it owes
    pub across_sends_awaits : (a b : Standing) (s : Stage) (m : Packet) (left after : List Entry) → owes ≡ confirms m ++ left
        → (IsOpen b → after ≡ left) → Awaits pick a entries p (At s) owes q → Awaits pick a entries p b after (q ++ (m ∷ []))
    unfolding flat_map
    across_sends_awaits a b s m left after files keeps c =
        across_awaits a b s (m ∷ []) [] left after refl
        (ap (λ (l : List Entry). l ++ left) (append-nil (confirms m)) ∙ sym files ∙ sym (append-nil owes)) keeps c

    -- the other end hears a packet, and confirms or owes what it asks for
    pub across_hears_awaits : (a b : Standing) (s : Stage) (m : Packet) (r : List Packet) (left after : List Entry)
        → flat_map confirms r ++ left ≡ owes ++ asks m → (IsOpen b → after ≡ left) → Awaits pick a entries (m ∷ p) (At s) owes q
        → Awaits pick a entries p b after (q ++ r)
    unfolding flat_map
    across_hears_awaits a b s m r left after balance keeps c = across_awaits a b s r (asks m) left after refl balance keeps c

-- data, READYs and confirmations of DATA

module _ {A : Type 0} (carried : Packet → List A) {sent heard : List A} {p : List Packet} where
  -- an end writes packets, and one, and some that carry nothing
  pub replies_delivers : (b : Standing) (r : List Packet) → Delivers carried sent p b heard
      → Delivers carried (sent ++ flat_map carried r) (p ++ r) b heard
  replies_delivers b r c =
      record {
        rest = c.rest ++ flat_map carried r;
        whole = ap (λ (l : List A). l ++ flat_map carried r) c.whole ∙ append_assoc heard c.rest (flat_map carried r);
        due = λ listens. ap (λ (l : List A). l ++ flat_map carried r) (c.due listens) ∙ sym (flat_append carried p r);
      }

  pub sends_delivers : (b : Standing) (m : Packet) → Delivers carried sent p b heard → Delivers carried (sent ++ carried m) (p ++ (m ∷ [])) b heard
  unfolding flat_map
  sends_delivers b m c = rw (append-nil (carried m)) at (replies_delivers b (m ∷ []) c)

  pub writes_delivers : (b : Standing) (r : List Packet) → flat_map carried r ≡ [] → Delivers carried sent p b heard
      → Delivers carried sent (p ++ r) b heard
  writes_delivers b r none c = rw (none, append-nil) at (replies_delivers b r c)

  -- the hearer stands elsewhere, and listens only where it did
  pub across_delivers : (b c : Standing) → (Listens c → Listens b) → Delivers carried sent p b heard → Delivers carried sent p c heard
  across_delivers b c stays d = record { rest = d.rest; whole = d.whole; due = λ listens. d.due (stays listens) }

  -- the hearer hears what a packet carries
  pub hears_delivers : (s : Stage) (b : Standing) (m : Packet) → Delivers carried sent (m ∷ p) (At s) heard
      → Delivers carried sent p b (heard ++ carried m)
  unfolding flat_map
  hears_delivers s b m c =
      record {
        rest = flat_map carried p;
        whole = c.whole ∙ ap (λ (l : List A). heard ++ l) (c.due tt) ∙ sym (append_assoc heard (carried m) (flat_map carried p));
        due = λ listens. refl;
      }

  -- the hearer has closed
  pub gone_delivers : (b : Standing) (m : Packet) → Delivers carried sent (m ∷ p) b heard → Delivers carried sent p ClosedByItself heard
  gone_delivers b m c = record { rest = c.rest; whole = c.whole; due = λ listens. absurd listens }

-- accounts

asked_append : (a b : List Datum) → asked_for (a ++ b) ≡ asked_for a ++ asked_for b
asked_append = read_off_append (λ datum. datum.ask) (λ datum. datum.type-data)

-- what a packet asks for of DATA is what it carries of data that ask
pub asked_reports : (m : Packet) → reports_in (asked_in m) ≡ asked_for (data_in m)
asked_reports (Called e (OPEN pipe)) = refl
asked_reports (Called e (READY count)) = refl
asked_reports (Called e (DATA datum)) = go datum.ask
  where
    go : (t : Bool) → reports_in (cond t (entry_for Data datum.type-data ∷ []) []) ≡ cond t (datum.type-data ∷ []) []
    go true = refl
    go false = refl
asked_reports (Called e (NOOP type-data true)) = refl
asked_reports (Called e (NOOP type-data false)) = refl
asked_reports (Called e (CLOSE code)) = refl
asked_reports (Confirms message type-data) = refl
asked_reports (Closes code) = refl

-- and what packets confirm on line 0 is what they confirm of DATA
pub confirmed_reports : (pick : ℕ → List Entry → List Entry) → Lines pick → (r : List Packet)
    → reports_in (flat_map (λ (m : Packet). pick 0 (confirmed_in m)) r) ≡ flat_map confirms_in r
unfolding flat_map
confirmed_reports pick lines [] = refl
confirmed_reports pick lines (m ∷ rest) =
    reports_append (pick 0 (confirmed_in m)) (flat_map (λ (packet : Packet). pick 0 (confirmed_in packet)) rest)
    ∙ ap₂ ◌++◌ (lines.reports (confirmed_in m)) (confirmed_reports pick lines rest)

module _ {past : History} {awaits owes : List Entry} (s : Stage) (a : Standing) (end : End) where
  -- an end sends a call that asks for these more
  pub sends_accounts : (call : Call) (more after-awaits left after-owes : List Entry) → reports_in more ≡ asked_for (data_sent call)
      → (IsOpen a → after-awaits ≡ awaits ++ more) → reports_in owes ≡ reports_in left → (IsOpen a → after-owes ≡ left)
      → Accounts (At s) past awaits owes → Accounts a (after_call end past call) after-awaits after-owes
  sends_accounts call more after-awaits left after-owes asks waits files keeps c =
      record {
        awaited =
            λ is_open. asked_append past.sent (data_sent call)
            ∙ ap₂ ◌++◌ (c.awaited tt) (sym asks)
            ∙ append_assoc past.confirmations_heard (reports_in awaits) (reports_in more)
            ∙ ap (λ (l : List ℕ). past.confirmations_heard ++ l) (sym (reports_append awaits more) ∙ ap reports_in (sym (waits is_open)));
        rest = c.rest;
        whole = c.whole;
        owed = λ is_open. c.owed tt ∙ files ∙ ap reports_in (sym (keeps is_open));
      }

  -- an end is brought this, replies these, and confirms or owes what it is asked for
  pub hears_accounts : (brought : Brought) (replied : List Queued) (ending : Ending) (first later after-awaits left after-owes : List Entry)
      → awaits ≡ first ++ later → reports_in first ≡ brought.confirmed → (IsOpen a → after-awaits ≡ later)
      → confirms_by brought replied ++ reports_in left ≡ reports_in owes ++ asked_for brought.carried → (IsOpen a → after-owes ≡ left)
      → Accounts (At s) past awaits owes → Accounts a (after_message end past brought replied ending) after-awaits after-owes
  hears_accounts brought replied ending first later after-awaits left after-owes held confirms waits balance keeps c =
      let confirmed : List ℕ = confirms_by brought replied in
      record {
        awaited =
            λ is_open. c.awaited tt
            ∙ ap (λ (l : List ℕ). past.confirmations_heard ++ l)
            (ap reports_in held ∙ reports_append first later ∙ ap₂ ◌++◌ confirms (ap reports_in (sym (waits is_open))))
            ∙ sym (append_assoc past.confirmations_heard brought.confirmed (reports_in after-awaits));
        rest = reports_in left;
        whole =
            asked_append past.accepted brought.carried
            ∙ ap (λ (l : List ℕ). l ++ asked_for brought.carried)
            (c.whole ∙ ap (λ (l : List ℕ). past.confirmations ++ l) (c.owed tt))
            ∙ append_assoc past.confirmations (reports_in owes) (asked_for brought.carried)
            ∙ ap (λ (l : List ℕ). past.confirmations ++ l) (sym balance)
            ∙ sym (append_assoc past.confirmations confirmed (reports_in left));
        owed = λ is_open. ap reports_in (sym (keeps is_open));
      }

-- an end that has closed awaits nothing and owes nothing, and its accounts stay
pub gone_accounts : {past : History} {awaits owes : List Entry} (b : Standing) (end : End) (m : Queued) (ending : Ending) (after-awaits after-owes : List Entry)
    → Accounts b past awaits owes → Accounts ClosedByItself (after_message end past nothing_brought (m ∷ []) ending) after-awaits after-owes
gone_accounts {past = past} b end m ending after-awaits after-owes c =
    record {
      awaited = λ is_open. absurd is_open;
      rest = c.rest;
      whole = simp append-nil c.whole;
      owed = λ is_open. absurd is_open;
    }
