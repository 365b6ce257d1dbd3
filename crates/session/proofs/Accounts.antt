-- Where the invariant holds, the DATA of an end are accounted for, in a program whose records have of DATA what is awaited on line 0.
-- Assumes nothing.
use mathlib.Core.Path.{◌≡◌, refl, sym, ◌∙◌, ap}
use Prim.Native.Nat.{ℕ, ◌+◌}
use mathlib.Core.List.{List, ◌++◌}
use lib.ListN.{length, length-append}
use borrow.Author.Tests.{eqb-true}
use Rattle.bytes_be.specs.Part.{tabulate}
use Rattle.endpoint.specs.declared.Endpoint.{Endpoint}
use Rattle.endpoint.specs.Record.{awaited, entry_at, reports_in, shut, wait_fits}
use Rattle.endpoint.proofs.Told.{good_told}
use Rattle.session.specs.World.{End, across, Ending, History, asked_for, Side, World, side, viewed_side, Going, HeardClose, WroteClose}
use Rattle.session.specs.Turns.{IsOpen, stands, standing}
use Rattle.session.specs.Demand.{Accounted, PhaseFits}
use Rattle.session.specs.Invariant.{Model, Invariant}
use Rattle.session.proofs.Step.{seen_from}

pub is_open : (x : Side Endpoint) → x.past.ending ≡ Going → IsOpen (standing x)
is_open x going = rw (ap (λ (ending : Ending). stands ending x.self) going) tt

ended_shut : (ending : Ending) (phase : ℕ) → PhaseFits ending phase → (ending ≡ Going → ⊥) → phase ≡ shut
ended_shut Going phase fits closed = absurd (closed refl)
ended_shut HeardClose phase fits closed = fits
ended_shut WroteClose phase fits closed = fits

module _ {A : Type 0} {model : Model A} (w : World A) (holds : Invariant model w) (end : End) where
  abbrev record_at : Endpoint
  record_at = model.view.endpoint (side w end).self

  abbrev past : History
  past = (side w end).past

  module _ (recorded : reports_in ((model.view.ledger (side w end).self).waits 0) ≡ reports_in (awaited record_at)) where
    all_awaited : past.ending ≡ Going → asked_for past.sent ≡ past.confirmations_heard ++ reports_in (awaited record_at)
    all_awaited going =
        (seen_from end w holds).linked.accounts.awaited (is_open (viewed_side model.view.endpoint (side w end)) going)
        ∙ ap (λ (l : List ℕ). past.confirmations_heard ++ l) recorded

    -- an end that has closed is in phase 5, where nothing is awaited
    none_closed : (past.ending ≡ Going → ⊥) → record_at.unconfirmed ≡ 0
    unfolding wait_fits
    none_closed closed =
        let here = (seen_from end w holds).linked.here in
        let told = good_told record_at here.sound.is-good in
        let is-shut = ended_shut past.ending record_at.phase here.ends closed in
        let none = eqb-true record_at.w 0 (rw is-shut at told.waiting) in
        told.tallied ∙ ap (λ (w : ℕ). length (reports_in (tabulate 0 w (entry_at record_at.entries)))) none

    pub accounts_hold : Accounted past (side w (across end)).past record_at
    accounts_hold =
        let linked = (seen_from end w holds).linked in
        let counted = (good_told record_at linked.here.sound.is-good).tallied in
        record {
          waits_for_rest = all_awaited;
          unconfirmed = λ going.
              ap length (all_awaited going)
              ∙ length-append past.confirmations_heard (reports_in (awaited record_at))
              ∙ ap (λ (k : ℕ). length past.confirmations_heard + k) (sym counted);
          cleared = none_closed;
          confirmations_lead = (linked.confirmations_across.rest, sym linked.confirmations_across.whole);
          confirms_accepted = (linked.accounts.rest, sym linked.accounts.whole);
        }
