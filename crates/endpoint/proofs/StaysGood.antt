-- A good record stays good in each way in which it changes, and keeps the size of its entries. Assumes nothing.
use mathlib.Core.Path.{◌∙◌, ◌≡◌, ap, refl, sym}
use Prim.Native.Nat.{◌<◌, ◌≤◌, suc, ℕ, ◌-◌, ◌*◌}
use mathlib.Core.Bool.{Bool, ◌&&◌, false, true, ◌||◌, cond}
use native.Mathlib.Omega.{arith}
use lib.Dec.{leb, ltb, eqb}
use lib.ListN.{get_or, length}
use borrow.Author.Tests.{lt-ltb, ltb-false, ltb-true, eq-eqb, eqb-true, ne_eqb}
use Rattle.bytes_be.specs.Number.{from_bytes, from_bytes_behind, number_at}
use Rattle.bytes_be.proofs.Numbers.{bytes_put}
use Rattle.bytes_be.proofs.Parts.{length_put}
use Rattle.bytes_be.proofs.Tests.{both_true}
use Rattle.double.specs.Limit.{in_limits}
use Rattle.endpoint.specs.declared.Endpoint.{Endpoint}
use Rattle.endpoint.specs.declared.Entry.{Entry}
use Rattle.endpoint.specs.Record.{at_phase, awaitable, capacity, client, closed, confirmed, count_fits, entries_fit, entry_fits, fresh_of, good, good_flow, is_none, limited, producer, server, shut, wait_fits, asked, batch, entry_at, entry_bytes, fresh, idle, no_entries, one_less, one_more, opening, without, without_entry}
use Rattle.endpoint.specs.Round.{Sized}
use Rattle.endpoint.proofs.Entries.{bytes_entry, bytes_without, kept_before, kept_behind, kept_without, length_without, moved_up, type_put, zero_everywhere}
use Rattle.endpoint.proofs.Reports.{reports_with, reports_without}
use Rattle.endpoint.proofs.Told.{awaitable_small, every_from, fits_at, fits_before, fits_behind, good_told, told_good}

-- where W must be 0, one less is 0 too
fewer_wait : (zero-wanted : Bool) (w : ℕ) → cond zero-wanted (eqb w 0) true ≡ true → cond zero-wanted (eqb (w - 1) 0) true ≡ true
fewer_wait true w e = eq-eqb (w - 1) 0 (omega (arith, eqb-true w 0 e))
fewer_wait false w e = refl

-- a fresh endpoint is good where role, flow and limit are in their ranges
pub fresh_good : (role flow limit : ℕ) → leb client role && leb role server ≡ true → good_flow flow && in_limits limit ≡ true →
    good (fresh_of role flow limit) ≡ true
unfolding fresh_of count_fits wait_fits entries_fit entry_fits is_none entry_at number_at from_bytes from_bytes_behind
fresh_good role flow limit acts given =
    let both = both_true (good_flow flow) (in_limits limit) given in
    told_good (fresh_of role flow limit)
    (record {
      roles = acts;
      flows = both.0;
      phases = omega arith;
      waits = omega arith;
      counted = refl;
      waiting = refl;
      fitting = refl;
      tallied = refl;
      bounded = both.1;
    })

module _ (e : Endpoint) (g : good e ≡ true) where
  -- a good endpoint that is closed is good
  pub closed_good : good (closed e) ≡ true
  unfolding closed count_fits wait_fits entries_fit entry_fits is_none entry_at number_at from_bytes from_bytes_behind
  closed_good =
      let told = good_told e g in
      told_good (closed e)
      (record {
        roles = told.roles;
        flows = told.flows;
        phases = omega arith;
        waits = omega arith;
        counted = refl;
        waiting = refl;
        fitting = refl;
        tallied = refl;
        bounded = told.bounded;
      })

  -- a good endpoint is good in another phase, where n and W are as that phase wants them
  pub phase_good : (phase n : ℕ) → phase ≤ shut → count_fits (at_phase e phase n) ≡ true → wait_fits (at_phase e phase n) ≡ true →
      good (at_phase e phase n) ≡ true
  unfolding at_phase entries_fit entry_fits
  phase_good phase n known counted waiting =
      let told = good_told e g in
      told_good (at_phase e phase n)
      (record {
        roles = told.roles;
        flows = told.flows;
        phases = known;
        waits = told.waits;
        counted = counted;
        waiting = waiting;
        fitting = told.fitting;
        tallied = told.tallied;
        bounded = told.bounded;
      })

  -- a good endpoint is good with another limit that is in the limits
  pub limited_good : (limit : ℕ) → in_limits limit ≡ true → good (limited e limit) ≡ true
  unfolding limited count_fits wait_fits entries_fit entry_fits
  limited_good limit bounded =
      let told = good_told e g in
      told_good (limited e limit)
      (record {
        roles = told.roles;
        flows = told.flows;
        phases = told.phases;
        waits = told.waits;
        counted = told.counted;
        waiting = told.waiting;
        fitting = told.fitting;
        tallied = told.tallied;
        bounded = bounded;
      })

module _ (e : Endpoint) (full : length e.entries ≡ 48) (g : good e ≡ true) where
  module _ (i : ℕ) (waits : i ≤ e.w - 1) where
    inside : i < 16
    inside = omega (arith, (good_told e g).waits)

    fewer_fits : (k : ℕ) → entry_fits (one_less e i) k ≡ true
    fewer_fits k = go (ltb k i) refl (ltb (suc k) e.w) refl
      where
        go : (t : Bool) → ltb k i ≡ t → (u : Bool) → ltb (suc k) e.w ≡ u → entry_fits (one_less e i) k ≡ true
        go true before u _ =
            let h : k < i = ltb-true k i before in
            fits_before (one_less e i) k (omega arith)
            ∙ ap (awaitable e.flow) (kept_without e.entries i full inside k h)
            ∙ sym (fits_before e k (omega arith))
            ∙ fits_at e full g k
        go false behind true below =
            let h : suc k < e.w = ltb-true (suc k) e.w below in
            fits_before (one_less e i) k (omega arith)
            ∙ ap (awaitable e.flow) (moved_up e.entries i full inside k (ltb-false k i behind))
            ∙ sym (fits_before e (suc k) h)
            ∙ fits_at e full g (suc k)
        go false behind false above =
            let h : e.w ≤ suc k = ltb-false (suc k) e.w above in
            fits_behind (one_less e i) k (omega arith)
            ∙ ap is_none (moved_up e.entries i full inside k (ltb-false k i behind))
            ∙ sym (fits_behind e (suc k) h)
            ∙ fits_at e full g (suc k)

    fewer_good : good (one_less e i) ≡ true
    unfolding count_fits wait_fits entries_fit
    fewer_good =
        let told = good_told e g in
        told_good (one_less e i)
        (record {
          roles = told.roles;
          flows = told.flows;
          phases = told.phases;
          waits = omega arith;
          counted = told.counted;
          waiting = fewer_wait (eqb e.phase fresh || eqb e.phase opening || eqb e.phase shut) e.w told.waiting;
          fitting = every_from capacity (entry_fits (one_less e i)) (λ k h. fewer_fits k);
          tallied =
              reports_without (entry_at e.entries) (entry_at (without_entry e.entries i)) i (kept_without e.entries i full inside)
              (moved_up e.entries i full inside) e.w e.unconfirmed waits told.tallied;
          bounded = told.bounded;
        })

    -- a good endpoint is good without any one of the confirmations awaited; where it awaits none, also without entry 0
    pub without_good : good (without e i) ≡ true
    without_good = simp (lt-ltb i capacity inside) fewer_good

  pub confirmed_good : good (confirmed e) ≡ true
  unfolding confirmed
  confirmed_good = without_good 0 (omega arith)

  module _ (entry : Entry) (early : idle ≤ e.phase) (late : e.phase ≤ batch) (awaits : awaitable e.flow entry ≡ true) where
    more_fits : e.w < 16 → (i : ℕ) → entry_fits (one_more e entry) i ≡ true
    unfolding awaitable
    more_fits room i = go (ltb i e.w) refl (ltb e.w i) refl
      where
        go : (t : Bool) → ltb i e.w ≡ t → (u : Bool) → ltb e.w i ≡ u → entry_fits (one_more e entry) i ≡ true
        go true before u _ =
            let h : i < e.w = ltb-true i e.w before in
            fits_before (one_more e entry) i (omega arith)
            ∙ ap (awaitable e.flow) (kept_before e.entries full e.w room entry i h)
            ∙ sym (fits_before e i h)
            ∙ fits_at e full g i
        go false _ true behind =
            let h : e.w < i = ltb-true e.w i behind in
            fits_behind (one_more e entry) i (omega arith)
            ∙ ap is_none (kept_behind e.entries full e.w room entry i h)
            ∙ sym (fits_behind e i (omega arith))
            ∙ fits_at e full g i
        go false not-before false not_behind =
            let here : i ≡ e.w = omega (arith, ltb-false i e.w not-before, ltb-false e.w i not_behind) in
            ap (entry_fits (one_more e entry)) here
            ∙ fits_before (one_more e entry) e.w (omega arith)
            ∙ ap (λ (message : ℕ). eqb message 3 || (eqb message 4 && eqb e.flow producer)) (type_put e.entries full e.w room entry)
            ∙ awaits

    more_waits : wait_fits (one_more e entry) ≡ true
    unfolding wait_fits
    more_waits =
        simp (ne_eqb e.phase fresh (λ same. omega arith), ne_eqb e.phase opening (λ same. omega arith), ne_eqb e.phase shut (λ same. omega arith))

    more_good : e.w < 16 → good (one_more e entry) ≡ true
    unfolding count_fits entries_fit
    more_good room =
        let told = good_told e g in
        told_good (one_more e entry)
        (record {
          roles = told.roles;
          flows = told.flows;
          phases = told.phases;
          waits = omega arith;
          counted = told.counted;
          waiting = more_waits;
          fitting = every_from capacity (entry_fits (one_more e entry)) (λ i h. more_fits room i);
          tallied =
              reports_with (entry_at e.entries) (entry_at (one_more e entry).entries) entry e.w e.unconfirmed room
              (kept_before e.entries full e.w room entry) (type_put e.entries full e.w room entry) told.tallied;
          bounded = told.bounded;
        })

    -- a good endpoint in phase 2, 3 or 4 is good with one confirmation more that its flow may await; where sixteen are awaited it stays as it is
    pub asked_good : good (asked e entry) ≡ true
    unfolding asked
    asked_good = go (ltb e.w capacity) refl
      where
        go : (t : Bool) → ltb e.w capacity ≡ t → good (cond t (one_more e entry) e) ≡ true
        go true room = more_good (ltb-true e.w capacity room)
        go false full = g

-- in every change the entries are 48 bytes

none_sized : (i : ℕ) → get_or no_entries i 0 < 256
none_sized i = rw (zero_everywhere 48 i) (omega arith)

pub fresh_sized : (role flow limit : ℕ) → Sized (fresh_of role flow limit)
unfolding fresh_of
fresh_sized role flow limit = record { full = refl; bytes = none_sized }

pub closed_sized : (e : Endpoint) → Sized (closed e)
unfolding closed
closed_sized e = record { full = refl; bytes = none_sized }

module _ (e : Endpoint) (sized : Sized e) where
  pub phase_sized : (phase n : ℕ) → Sized (at_phase e phase n)
  unfolding at_phase
  phase_sized phase n = record { full = sized.full; bytes = sized.bytes }

  pub limited_sized : (limit : ℕ) → Sized (limited e limit)
  unfolding limited
  limited_sized limit = record { full = sized.full; bytes = sized.bytes }

  pub without_sized : (i : ℕ) → Sized (without e i)
  without_sized i = go (ltb i capacity) refl
    where
      go : (t : Bool) → ltb i capacity ≡ t → Sized (cond t (one_less e i) e)
      go true inside =
          record {
            full = length_without e.entries i sized.full (ltb-true i capacity inside);
            bytes = bytes_without e.entries i sized.bytes;
          }
      go false outside = sized

  pub confirmed_sized : Sized (confirmed e)
  unfolding confirmed
  confirmed_sized = without_sized 0

  more_sized : (entry : Entry) → entry.message < 256 → Sized (one_more e entry)
  more_sized entry small =
      record {
        full = length_put e.entries (3 * e.w) (entry_bytes entry) ∙ sized.full;
        bytes = bytes_put e.entries (3 * e.w) (entry_bytes entry) sized.bytes (bytes_entry entry small);
      }

  -- also with an entry more, whose type its flow may await
  pub asked_sized : (entry : Entry) → awaitable e.flow entry ≡ true → Sized (asked e entry)
  unfolding asked
  asked_sized entry awaits = go (ltb e.w capacity)
    where
      go : (t : Bool) → Sized (cond t (one_more e entry) e)
      go true = more_sized entry (awaitable_small e.flow entry awaits)
      go false = sized
