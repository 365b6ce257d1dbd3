-- What a good record says, test by test, and of each of its entries. Assumes nothing.
use mathlib.Core.Path.{◌∙◌, ◌≡◌, ap, refl}
use Prim.Native.Nat.{◌<◌, ◌≤◌, suc, zero, ℕ}
use mathlib.Core.Bool.{Bool, ◌&&◌, ◌||◌, false, true}
use native.Mathlib.Omega.{arith}
use lib.Dec.{eqb, leb, ltb}
use lib.ListN.{length}
use borrow.Author.Count.{below_more}
use borrow.Author.Tests.{eq-eqb, eqb-true, le-leb, le-ltb, leb-true, lt-ltb, ltb-false, ltb-true}
use Rattle.bytes_be.proofs.Tests.{both_true}
use Rattle.double.specs.Limit.{in_limits}
use Rattle.endpoint.specs.declared.Endpoint.{Endpoint}
use Rattle.endpoint.specs.declared.Entry.{Entry}
use Rattle.endpoint.specs.Record.{awaitable, awaited, capacity, client, count_fits, entries_fit, entry_at, entry_fits, every, good, good_flow, in_ranges, is_none, producer, reports_in, server, shut, unconfirmed_fits, wait_fits}
use Rattle.endpoint.proofs.Entries.{entry_past}

-- the tests of a good record
pub record Told (e : Endpoint) : Type 0 where
  pub roles : leb client e.role && leb e.role server ≡ true
  pub flows : good_flow e.flow ≡ true
  pub phases : e.phase ≤ shut
  pub waits : e.w ≤ capacity
  pub counted : count_fits e ≡ true
  pub waiting : wait_fits e ≡ true
  pub fitting : entries_fit e ≡ true
  pub tallied : e.unconfirmed ≡ length (reports_in (awaited e))
  pub bounded : in_limits e.limit ≡ true

-- a good record passes each of them
pub good_told : (e : Endpoint) → good e ≡ true → Told e
unfolding good in_ranges unconfirmed_fits
good_told e g =
    let three : Bool = leb client e.role && leb e.role server && good_flow e.flow && leb e.phase shut in
    let p = both_true (in_ranges e && count_fits e && wait_fits e && entries_fit e && unconfirmed_fits e) (in_limits e.limit) g in
    let o = both_true (in_ranges e && count_fits e && wait_fits e && entries_fit e) (unconfirmed_fits e) p.0 in
    let q = both_true (in_ranges e && count_fits e && wait_fits e) (entries_fit e) o.0 in
    let r = both_true (in_ranges e && count_fits e) (wait_fits e) q.0 in
    let s = both_true (in_ranges e) (count_fits e) r.0 in
    let t = both_true three (leb e.w capacity) s.0 in
    let u = both_true (leb client e.role && leb e.role server && good_flow e.flow) (leb e.phase shut) t.0 in
    let v = both_true (leb client e.role && leb e.role server) (good_flow e.flow) u.0 in
    record {
      roles = v.0;
      flows = v.1;
      phases = leb-true _ _ u.1;
      waits = leb-true _ _ t.1;
      counted = s.1;
      waiting = r.1;
      fitting = q.1;
      tallied = eqb-true _ _ o.1;
      bounded = p.1;
    }

-- and one that passes each of them is good
pub told_good : (e : Endpoint) → Told e → good e ≡ true
unfolding good in_ranges unconfirmed_fits
told_good e told =
    let tallied = eq-eqb e.unconfirmed (length (reports_in (awaited e))) told.tallied in
    simp (told.roles, told.flows, le-leb e.phase shut told.phases, le-leb e.w capacity told.waits, told.counted, told.waiting, told.fitting, tallied, told.bounded)

-- a test that holds of every number below k, and the other way round
pub every_at : (k : ℕ) (test : ℕ → Bool) → every k test ≡ true → (i : ℕ) → i < k → test i ≡ true
every_at zero test all i h = absurd (omega arith)
every_at (suc k) test all i h =
    let both = both_true (every k test) (test k) all in
    below_more (λ j. test j ≡ true) k (every_at k test both.0) both.1 i (omega arith)

pub every_from : (k : ℕ) (test : ℕ → Bool) → ((i : ℕ) → i < k → test i ≡ true) → every k test ≡ true
every_from zero test all = refl
every_from (suc k) test all = simp (every_from k test (λ i h. all i (omega arith)), all k (omega arith))

-- a type that may be awaited is a byte
pub awaitable_small : (flow : ℕ) (entry : Entry) → awaitable flow entry ≡ true → entry.message < 256
unfolding awaitable
awaitable_small flow entry = go (eqb entry.message 3) refl
  where
    go : (t : Bool) → eqb entry.message 3 ≡ t → t || (eqb entry.message 4 && eqb flow producer) ≡ true → entry.message < 256
    go true three may = omega (arith, eqb-true entry.message 3 three)
    go false other may = omega (arith, eqb-true entry.message 4 (both_true (eqb entry.message 4) (eqb flow producer) may).0)

-- one of the first W entries fits where it may be awaited, and one behind them where it is zero

module _ (e : Endpoint) (i : ℕ) where
  pub fits_before : i < e.w → entry_fits e i ≡ awaitable e.flow (entry_at e.entries i)
  unfolding entry_fits
  fits_before h = simp (lt-ltb i e.w h)

  pub fits_behind : e.w ≤ i → entry_fits e i ≡ is_none (entry_at e.entries i)
  unfolding entry_fits
  fits_behind h = simp (le-ltb i e.w h)

-- each of a good record's sixteen entries fits, and so does every one behind them, where there are no bytes
pub fits_at : (e : Endpoint) → length e.entries ≡ 48 → good e ≡ true → (i : ℕ) → entry_fits e i ≡ true
unfolding entries_fit is_none
fits_at e full g i = go (ltb i capacity) refl
  where
    told : Told e
    told = good_told e g

    go : (t : Bool) → ltb i capacity ≡ t → entry_fits e i ≡ true
    go true inside = every_at capacity (entry_fits e) told.fitting i (ltb-true i capacity inside)
    go false outside =
        let past : 16 ≤ i = ltb-false i capacity outside in
        fits_behind e i (omega (arith, told.waits)) ∙ ap is_none (entry_past e.entries full i past)
