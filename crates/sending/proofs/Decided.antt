-- From what was decided to what a send answers, and what the tests say of a send that is accepted. Assumes nothing.
use mathlib.Core.Path.{◌∙◌, ◌≡◌, ap, refl, sym}
use Prim.Native.Nat.{◌<◌, ◌≤◌, ℕ, ◌+◌}
use mathlib.Core.List.{List, [], ◌∷◌}
use mathlib.Core.Bool.{Bool, true, false, cond, not, ◌&&◌}
use native.Mathlib.Omega.{arith}
use lib.Dec.{eqb, lit<, ltb, leb}
use lib.ListN.{length}
use borrow.Author.Tests.{eq-eqb, eqb-false, eqb-true, le-ltb, ltb-false, ne_eqb, not-false}
use Rattle.std.specs.Prelude.{Result, Ok, Err}
use Rattle.bytes_be.specs.Part.{put_at}
use Rattle.bytes_be.proofs.Tests.{took_second}
use Rattle.bundle.proofs.Outputs.{one_long, two_long}
use Rattle.control.specs.declared.MessageType.{MessageType}
use Rattle.control.specs.Frame.{bytes_of}
use Rattle.control.proofs.Round.{length_control}
use Rattle.endpoint.specs.declared.Endpoint.{Endpoint}
use Rattle.endpoint.specs.Record.{good, shut, capacity}
use Rattle.table.specs.declared.Refusal.{Refusal}
use Rattle.table.specs.declared.Step.{Step}
use Rattle.table.specs.Table.{above_offer, moved, not_allowed, row_of}
use Rattle.sending.specs.declared.Refusal.{Refusal as Send-refusal}
use Rattle.sending.specs.declared.Refusal.TheVariants.{BadState, NoRoom, Closed, NotAllowed, AboveOffer, Full, TooLarge, BadOffer, BadCode}
use Rattle.sending.specs.declared.Sent.{Sent as Accepted}
use Rattle.sending.specs.Calls.{Outgoing, bundle_with, flags_for, number_if}
use Rattle.sending.specs.Numbers.{refusal_number}
use Rattle.sending.specs.Held.{plain}
use Rattle.sending.specs.Sending.{Answered, Sent, asked_by, is_full, left_by, number_for, numbered_as, send_row, sent_as, sent_by, sent_if}

not_zero : {k : ℕ} → 0 < k → k ≡ 0 → ⊥
not_zero some e = omega arith

-- a test that gave 0 was passed
passed : (t : Bool) (k rest : ℕ) → 0 < k → cond t k rest ≡ 0 → (t ≡ false) × (rest ≡ 0)
passed t k rest some e = took_second t (not_zero some) e

-- and so was its own
own_passed : (own rest : ℕ) → cond (not (eqb own 0)) own rest ≡ 0 → (own ≡ 0) × (rest ≡ 0)
own_passed own rest = go (eqb own 0) refl
  where
    go : (t : Bool) → eqb own 0 ≡ t → cond (not t) own rest ≡ 0 → (own ≡ 0) × (rest ≡ 0)
    go true none e = (eqb-true own 0 none, e)
    go false some e = absurd (eqb-false own 0 some e)

-- a test whose number is not given does not apply
pub not_applies : (t : Bool) (k : ℕ) → 0 < k → number_if t k ≡ 0 → t ≡ false
unfolding number_if
not_applies t k some e = (passed t k 0 some e).0

-- what a send of number 0 has passed
pub record Passed (e : Endpoint) (o : Outgoing) (row : Result Step Refusal) (room : ℕ) : Type 0 where
  pub is-good : good e ≡ true
  pub alive : eqb e.phase shut ≡ false
  pub allowed : not_allowed row ≡ false
  pub below : above_offer row ≡ false
  pub awaits : is_full e o ≡ false
  pub unrefused : o.own ≡ 0
  pub fits : o.length ≤ room

module _ (e : Endpoint) (o : Outgoing) (row : Result Step Refusal) (room : ℕ) where
  pub all_passed : number_for e o row room ≡ 0 → Passed e o row room
  unfolding number_for
  all_passed none =
      let bad = passed (not (good e)) 1 _ (lit< tt) none in
      let late = passed (eqb e.phase shut) 3 _ (lit< tt) bad.1 in
      let barred = passed (not_allowed row) 30 _ (lit< tt) late.1 in
      let above = passed (above_offer row) 31 _ (lit< tt) barred.1 in
      let full = passed (is_full e o) 32 _ (lit< tt) above.1 in
      let own = own_passed o.own _ full.1 in
      let short = passed (ltb room o.length) 2 _ (lit< tt) own.1 in
      record {
        is-good = not-false (good e) bad.0;
        alive = late.0;
        allowed = barred.0;
        below = above.0;
        awaits = full.0;
        unrefused = own.0;
        fits = ltb-false room o.length short.0;
      }

  -- and a send that has passed them has that number
  none_given : Passed e o row room → number_for e o row room ≡ 0
  unfolding number_for
  none_given through =
      simp (through.is-good, through.alive, through.allowed, through.below, through.awaits, eq-eqb o.own 0 through.unrefused, le-ltb room o.length through.fits)

  -- the number of what was sent is that of the tests
  number-if : (sent_if (number_for e o row room) e o row).number ≡ number_for e o row room
  number-if = go (eqb (number_for e o row room) 0) refl
    where
      go : (t : Bool) → eqb (number_for e o row room) 0 ≡ t →
          (cond {A = Sent} t (record { number = 0; next = asked_by (moved e row) o; written = o.length }) (record { number = number_for e o row room; next = e; written = 0 })).number ≡ number_for e o row room
      go true zero_number = sym (eqb-true (number_for e o row room) 0 zero_number)
      go false differs = refl

-- what an accepted send has passed, and what it comes to

module _ (e : Endpoint) (o : Outgoing) (room : ℕ) where
  pub accepted_passed : (sent_by e o room).number ≡ 0 → Passed e o (send_row e o) room
  unfolding sent_by
  accepted_passed zero_number = all_passed e o (send_row e o) room (sym (number-if e o (send_row e o) room) ∙ zero_number)

  pub passed_accepted : Passed e o (send_row e o) room → (sent_by e o room).number ≡ 0
  unfolding sent_by
  passed_accepted through = number-if e o (send_row e o) room ∙ none_given e o (send_row e o) room through

  pub accepted_sent : (sent_by e o room).number ≡ 0 → sent_by e o room ≡ sent_if 0 e o (send_row e o)
  unfolding sent_by
  accepted_sent zero_number = ap (λ (number : ℕ). sent_if number e o (send_row e o)) (sym (number-if e o (send_row e o) room) ∙ zero_number)

-- no refusal is numbered 0
pub refusal_numbered : (why : Send-refusal) → eqb (refusal_number why) 0 ≡ false
refusal_numbered BadState = refl
refusal_numbered NoRoom = refl
refusal_numbered Closed = refl
refusal_numbered NotAllowed = refl
refusal_numbered AboveOffer = refl
refusal_numbered Full = refl
refusal_numbered TooLarge = refl
refusal_numbered BadOffer = refl
refusal_numbered BadCode = refl

module _ (e : Endpoint) (o : Outgoing) (room : ℕ) {row : Result Step Refusal} (rowed : row ≡ send_row e o) where
  -- what a test refuses is not sent
  pub refused_sent : {Why : Type 0} (number : Why → ℕ) (why : Why) → eqb (number why) 0 ≡ false → number why ≡ number_for e o row room
      → numbered_as number e (Err why) ≡ sent_by e o room
  unfolding sent_by
  refused_sent number why some tested = simp (sym rowed, sym tested, some)

  -- and what none refuses is
  pub passed_sent : (sent : Accepted) → 0 ≡ number_for e o row room → sent_as e (Ok sent) ≡ sent_if 0 e o row → sent_as e (Ok sent) ≡ sent_by e o room
  unfolding sent_by
  passed_sent sent tested accepted = simp (sym rowed, sym tested) accepted

module _ (e : Endpoint) (o : Outgoing) (bytes before : List ℕ) where
  -- what is accepted has its bytes at the start of the output
  pub wrote_bytes : (after : List ℕ) (sent : Accepted) → sent_as e (Ok sent) ≡ sent_by e o (length before) → after ≡ put_at before 0 bytes
      → Answered e o bytes before (Ok sent) after
  unfolding left_by
  wrote_bytes after sent decided put = record { answered = decided; left = simp (sym decided) put }

  -- what is refused leaves the output as it was
  pub wrote_nothing : (why : Send-refusal) → sent_as e (Err why) ≡ sent_by e o (length before) → Answered e o bytes before (Err why) before
  unfolding left_by
  wrote_nothing why decided = record { answered = decided; left = simp (sym decided, refusal_numbered why) }

-- the bundle of a control frame alone has 14 bytes, and with one data frame 18 more than that
pub plain_long : (message : MessageType) (ask : Bool) (type-data : ℕ) → length (bundle_with message ask type-data []) ≡ 14
unfolding bundle_with
plain_long message ask type-data = one_long (bytes_of message (flags_for ask) type-data) (length_control message (flags_for ask) type-data) []

pub framed_long : (message : MessageType) (ask : Bool) (type-data : ℕ) (frame : List ℕ) → length (bundle_with message ask type-data (frame ∷ [])) ≡ 18 + length frame
unfolding bundle_with
framed_long message ask type-data frame = two_long (bytes_of message (flags_for ask) type-data) (length_control message (flags_for ask) type-data) [] frame

-- a send that its own test refuses is the same whatever its length

refused_if : (t : Bool) (k rest : ℕ) → 0 < k → eqb rest 0 ≡ false → eqb (cond t k rest) 0 ≡ false
refused_if true k rest some e = ne_eqb k 0 (not_zero some)
refused_if false k rest some e = e

abbrev pub longer : Outgoing → ℕ → Outgoing
longer o size = record { message = o.message; type_data = o.type_data; ask = o.ask; own = o.own; length = size }

-- a control frame alone makes a bundle of 14 bytes, by which its send is decided
pub plain_decided : (e : Endpoint) (message : MessageType) (ask : Bool) (type-data own room : ℕ)
    → sent_by e (longer (plain message type-data ask own) 14) room ≡ sent_by e (plain message type-data ask own) room
plain_decided e message ask type-data own room =
    ap (λ (size : ℕ). sent_by e (longer (plain message type-data ask own) size) room) (sym (plain_long message ask type-data))

pub refused_any : (e : Endpoint) (o : Outgoing) (room size : ℕ) → eqb o.own 0 ≡ false → sent_by e o room ≡ sent_by e (longer o size) room
unfolding sent_by number_for is_full send_row
refused_any e o room size refuses =
    let row : Result Step Refusal = row_of e.role e.flow e.phase e.n o.message o.type_data in
    let none : eqb (cond (not (good e)) 1 (cond (eqb e.phase shut) 3 (cond (not_allowed row) 30 (cond (above_offer row) 31 (cond (o.ask && leb capacity e.w) 32 o.own))))) 0 ≡ false =
    refused_if (not (good e)) 1 _ (lit< tt)
    (refused_if (eqb e.phase shut) 3 _ (lit< tt)
    (refused_if (not_allowed row) 30 _ (lit< tt)
    (refused_if (above_offer row) 31 _ (lit< tt)
    (refused_if (o.ask && leb capacity e.w) 32 _ (lit< tt) refuses)))) in
    simp (refuses, none)
