-- What a row of the table leads to: a good endpoint, and for DATA and NOOP one that may await a confirmation. Assumes nothing.
use mathlib.Core.Path.{◌≡◌, ◌∙◌, ap, refl, sym}
use Prim.Native.Nat.{◌-◌, ◌<◌, ◌^◌, ◌≤◌, ℕ}
use mathlib.Core.Bool.{Bool, ◌&&◌, ◌||◌, cond, false, true}
use native.Mathlib.Omega.{arith}
use lib.Dec.{eqb, leb}
use borrow.Author.Tests.{eqb-false, eqb-true, le-leb, leb-true, ne_eqb}
use Rattle.std.specs.Prelude.{Err, Result}
use Rattle.bytes_be.proofs.Tests.{both_true, clash, either_way}
use Rattle.control.specs.declared.MessageType.{MessageType}
use Rattle.control.specs.declared.MessageType.TheVariants.{Open, Ready, Noop, Data, Close}
use Rattle.endpoint.specs.declared.Endpoint.{Endpoint}
use Rattle.endpoint.specs.Record.{at_phase, batch, client, closed, count_fits, fresh, idle, offer, opening, producer, shut, wait_fits}
use Rattle.endpoint.proofs.StaysGood.{closed_good, closed_sized, phase_good, phase_sized}
use Rattle.endpoint.proofs.Told.{good_told}
use Rattle.table.specs.declared.Refusal.TheVariants.{NotAllowed}
use Rattle.table.specs.declared.Refusal.{Refusal}
use Rattle.table.specs.declared.Step.{Step}
use Rattle.table.specs.Table.{To, allowed, at_row, begun, close_row, data_row, moved, noop_row, not_allowed, open_row, ready_row, row_of, up_to}
use Rattle.machine.specs.Good.{Sound}

-- the endpoint in another phase, with another n
at_sound : (e : Endpoint) → Sound e → (phase n : ℕ) → phase ≤ shut → count_fits (at_phase e phase n) ≡ true → wait_fits (at_phase e phase n) ≡ true → Sound (at_phase e phase n)
at_sound e sound phase n known counts waits =
    record { sized = phase_sized e sound.sized phase n; is-good = phase_good e sound.is-good phase n known counts waits }

pub closed_sound : (e : Endpoint) → Sound e → Sound (closed e)
closed_sound e sound = record { sized = closed_sized e; is-good = closed_good e sound.is-good }

-- what holds of an endpoint, and of it where a row leads, holds where the row leads if it is allowed

module _ (Holds : Endpoint → Type 0) (e : Endpoint) (itself : Holds e) where
  pub allowed_holds : (t : Bool) (row : Result Step Refusal) → (t ≡ true → Holds (moved e row)) → Holds (moved e (allowed t row))
  allowed_holds true row there = there refl
  allowed_holds false row there = itself

  up_to_holds : (t : Bool) (row : Result Step Refusal) → Holds (moved e row) → Holds (moved e (up_to t row))
  up_to_holds true row there = there
  up_to_holds false row there = itself

  pub ready_holds : (role count : ℕ) → Holds (moved e (begun batch count)) → Holds (moved e (begun offer count))
      → Holds (moved e (ready_row role e.phase e.n count))
  unfolding ready_row
  ready_holds role count takes offers = go (eqb role client)
    where
      go : (t : Bool) → Holds (moved e (cond t (allowed (eqb e.phase offer) (up_to (leb count e.n) (begun batch count))) (allowed (eqb e.phase opening || eqb e.phase idle) (begun offer count))))
      go true = allowed_holds (eqb e.phase offer) _ (λ there. up_to_holds (leb count e.n) _ takes)
      go false = allowed_holds (eqb e.phase opening || eqb e.phase idle) _ (λ there. offers)

-- an endpoint of the same flow that may ask for a confirmation
pub record Acts (e after : Endpoint) : Type 0 where
  pub sound : Sound after
  pub early : idle ≤ after.phase
  pub late : after.phase ≤ batch
  pub same : after.flow ≡ e.flow

module _ (e : Endpoint) (sound : Sound e) where
  -- phase 2 with no n, and 3 and 4 with one

  idle_acts : Acts e (at_row e idle 0)
  unfolding at_row count_fits wait_fits at_phase
  idle_acts = record { sound = at_sound e sound idle 0 (omega arith) refl refl; early = omega arith; late = omega arith; same = refl }

  counted_acts : (phase count : ℕ) → offer ≤ phase → phase ≤ batch → eqb phase offer || eqb phase batch ≡ true → count < 256 ^ 2 → 0 < count → Acts e (at_row e phase count)
  unfolding at_row count_fits wait_fits at_phase
  counted_acts phase count early late either few some =
      let later = ne_eqb phase fresh (λ same. omega arith) in
      let opened = ne_eqb phase opening (λ same. omega arith) in
      let alive = ne_eqb phase shut (λ same. omega arith) in
      simp alive
      (record {
        sound = at_sound e sound phase count (omega arith) (simp (either, le-leb 1 count some, le-leb count 65535 (omega arith))) (simp (later, opened, alive));
        early = omega arith;
        late = late;
        same = refl;
      })

  offer_acts : (count : ℕ) → count < 256 ^ 2 → 0 < count → Acts e (at_row e offer count)
  offer_acts count = counted_acts offer count (omega arith) (omega arith) refl

  batch_acts : (count : ℕ) → count < 256 ^ 2 → 0 < count → Acts e (at_row e batch count)
  batch_acts count = counted_acts batch count (omega arith) (omega arith) refl

  begun_acts : (phase count : ℕ) → (0 < count → Acts e (at_row e phase count)) → Acts e (moved e (begun phase count))
  unfolding begun
  begun_acts phase count there = go (eqb count 0) refl
    where
      go : (t : Bool) → eqb count 0 ≡ t → Acts e (moved e (cond t (To idle 0) (To phase count)))
      go true zero-count = idle_acts
      go false differs = there (omega (arith, eqb-false count 0 differs))

  -- n is a number of two bytes
  pub n_small : e.n < 256 ^ 2
  unfolding count_fits
  n_small = go (eqb e.phase offer || eqb e.phase batch) (good_told e sound.is-good).counted
    where
      go : (t : Bool) → cond t (leb 1 e.n && leb e.n 65535) (eqb e.n 0) ≡ true → e.n < 256 ^ 2
      go true counts = omega (arith, leb-true e.n 65535 (both_true (leb 1 e.n) (leb e.n 65535) counts).1)
      go false counts = omega (arith, eqb-true e.n 0 counts)

  -- the rows

  opening_sound : e.phase ≡ fresh → Sound (at_row e opening 0)
  unfolding at_row count_fits wait_fits at_phase
  opening_sound begins = at_sound e sound opening 0 (omega arith) refl (rw begins at (good_told e sound.is-good).waiting)

  same_acts : idle ≤ e.phase → e.phase ≤ batch → Acts e (at_row e e.phase e.n)
  unfolding at_row count_fits wait_fits at_phase
  same_acts early late =
      let told = good_told e sound.is-good in
      simp (ne_eqb e.phase shut (λ same. omega arith))
      (record { sound = at_sound e sound e.phase e.n told.phases told.counted told.waiting; early = early; late = late; same = refl })

  allowed_sound : (t : Bool) (row : Result Step Refusal) → (t ≡ true → Sound (moved e row)) → Sound (moved e (allowed t row))
  allowed_sound = allowed_holds Sound e sound

  -- where the row of DATA or NOOP allows it, the endpoint may ask
  data_acts : Acts e (moved e (begun batch (e.n - 1)))
  data_acts = begun_acts batch (e.n - 1) (batch_acts (e.n - 1) (omega (arith, n_small)))

  noop_acts : leb idle e.phase && leb e.phase batch ≡ true → Acts e (moved e (To e.phase e.n))
  noop_acts there =
      let ends = both_true (leb idle e.phase) (leb e.phase batch) there in
      same_acts (leb-true idle e.phase ends.0) (leb-true e.phase batch ends.1)

  -- every row leads to a good endpoint, from either side of the table
  pub row_sound : (role flow : ℕ) (message : MessageType) (type-data : ℕ) → type-data < 256 ^ 2 → Sound (moved e (row_of role flow e.phase e.n message type-data))
  unfolding open_row data_row noop_row close_row at_row
  row_sound role flow Open type-data few =
      allowed_sound (eqb role client && eqb e.phase fresh) _ (λ there. opening_sound (eqb-true e.phase fresh (both_true (eqb role client) (eqb e.phase fresh) there).1))
  row_sound role flow Ready type-data few =
      ready_holds Sound e sound role type-data (begun_acts batch type-data (batch_acts type-data few)).sound
      (begun_acts offer type-data (offer_acts type-data few)).sound
  row_sound role flow Noop type-data few = allowed_sound (leb idle e.phase && leb e.phase batch) _ (λ there. (noop_acts there).sound)
  row_sound role flow Data type-data few = allowed_sound (eqb flow producer && eqb e.phase batch) _ (λ there. data_acts.sound)
  row_sound role flow Close type-data few = allowed_sound (leb opening e.phase && leb e.phase batch) _ (λ there. closed_sound e sound)

  -- an own DATA or NOOP that its row allows
  pub sent_data_acts : (flow : ℕ) → not_allowed (data_row flow e.phase e.n) ≡ false → (flow ≡ producer) × Acts e (moved e (data_row flow e.phase e.n))
  unfolding data_row
  sent_data_acts flow passes = go (eqb flow producer && eqb e.phase batch) refl passes
    where
      go : (t : Bool) → eqb flow producer && eqb e.phase batch ≡ t → not_allowed (allowed t (begun batch (e.n - 1))) ≡ false → (flow ≡ producer) × Acts e (moved e (allowed t (begun batch (e.n - 1))))
      go true there _ = (eqb-true flow producer (both_true (eqb flow producer) (eqb e.phase batch) there).0, data_acts)
      go false there barred = clash cc

  pub sent_noop_acts : not_allowed (noop_row e.phase e.n) ≡ false → Acts e (moved e (noop_row e.phase e.n))
  unfolding noop_row
  sent_noop_acts passes = go (leb idle e.phase && leb e.phase batch) refl passes
    where
      go : (t : Bool) → leb idle e.phase && leb e.phase batch ≡ t → not_allowed (allowed t (To e.phase e.n)) ≡ false → Acts e (moved e (allowed t (To e.phase e.n)))
      go true there _ = noop_acts there
      go false there barred = clash cc

-- no row leads on from phase 5

never : (t : Bool) (row : Result Step Refusal) → cond (t && false) row (Err NotAllowed) ≡ Err NotAllowed
never true row = refl
never false row = refl

shut_barred : (role flow n : ℕ) (message : MessageType) (type-data : ℕ) → row_of role flow shut n message type-data ≡ Err NotAllowed
unfolding open_row ready_row data_row noop_row close_row
shut_barred role flow n Open type-data = never (eqb role client) (To opening 0)
shut_barred role flow n Ready type-data = either_way (eqb role client) (Err NotAllowed)
shut_barred role flow n Noop type-data = refl
shut_barred role flow n Data type-data = never (eqb flow producer) (begun batch (n - 1))
shut_barred role flow n Close type-data = refl

pub row_alive : (role flow phase n : ℕ) (message : MessageType) (type-data next count : ℕ) → row_of role flow phase n message type-data ≡ To next count → eqb phase shut ≡ false
row_alive role flow phase n message type-data next count leads = ne_eqb phase shut still
  where
    still : phase ≡ shut → ⊥
    still is-shut =
        let same : Err NotAllowed ≡ To next count = sym (shut_barred role flow n message type-data) ∙ ap (λ (p : ℕ). row_of role flow p n message type-data) (sym is-shut) ∙ leads in
        clash cc
