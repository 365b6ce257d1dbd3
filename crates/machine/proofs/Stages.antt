-- What holds of every refusal and of every message that all tests let pass holds of whatever a receive makes of bytes. Assumes nothing.
use Rattle.std.specs.Prelude.{Result, Ok, Err}
use mathlib.Core.Path.{◌≡◌, ap, refl, subst}
use Prim.Native.Nat.{ℕ, ◌+◌, ◌≤◌, ◌<◌}
use mathlib.Core.List.{List}
use mathlib.Core.Bool.{Bool, cond, false, not, true, ◌&&◌}
use native.Mathlib.Omega.{arith}
use lib.Dec.{eqb, ltb}
use borrow.Author.Tests.{eqb-false, ne_eqb}
use Rattle.bytes_be.proofs.Tests.{took_second}
use Rattle.control.specs.Frame.{type_of}
use Rattle.open.specs.Offer.{Offer}
use Rattle.message.specs.declared.Message.{Message}
use Rattle.open.specs.declared.Refusal.{Refusal as Refusal-of-open}
use Rattle.open.specs.Open.{refusal_number as refusal_number-of-open}
use Rattle.message.specs.declared.Reason.{Reason}
use Rattle.message.specs.declared.Refusal.{Refusal}
use Rattle.message.specs.Reading.{reading_of, refusal_number, said_in}
use Rattle.message.proofs.Inside.{read_refused}
use Rattle.endpoint.specs.declared.Endpoint.{Endpoint}
use Rattle.endpoint.specs.Record.{fresh, good, server, shut}
use Rattle.table.specs.Table.{above_offer}
use Rattle.receiving.specs.declared.Content.{Content}
use Rattle.receiving.specs.Numbers.{Received}
use Rattle.receiving.specs.Hearing.{accepted, forbidden, if_carried, if_read, carried_by, hear_content, hear_message, hear_of, hear_row, too_large, unmatched, Carried}
use Rattle.receiving.specs.Receiving.{received_of}
use Rattle.receiving.specs.Refusing.{close_code, refused, unchanged, version_code}
use Rattle.machine.specs.Refusals.{said_by}
use Rattle.machine.proofs.Carried.{CarriedBounded, carried_bounded}

-- what a message that is heard has passed
pub record Passed (e : Endpoint) (s : List ℕ) (pipe : Offer) (m : Message) (content : Content) : Type 0 where
  pub alive : eqb e.phase shut ≡ false
  pub read : reading_of s ≡ Ok m
  pub small : too_large e m ≡ false
  pub allowed : forbidden e m ≡ false
  pub carried : carried_by e s pipe m ≡ Ok content
  pub below : above_offer (hear_row e m) ≡ false
  pub matched : unmatched e m ≡ false

-- each number of 10 to 24 has a CLOSE code

above : {low number : ℕ} → low ≤ number → (number ≡ low → ⊥) → 1 + low ≤ number
above least differs = omega (arith, differs)

version_coded : (e : Endpoint) (said : ℕ) → version_code e said ≡ 0 → ⊥
unfolding version_code
version_coded e said = go (eqb said 1 && eqb e.role server && eqb e.phase fresh)
  where
    go : (t : Bool) → ◌≡◌ {A = ℕ} (cond t 101 1) 0 → ⊥
    go true none = omega arith
    go false none = omega arith

coded : (e : Endpoint) (number said : ℕ) → 10 ≤ number → number ≤ 24 → close_code e number said ≡ 0 → ⊥
unfolding close_code
coded e number said low high none =
    let past-10 = took_second (eqb number 10) (λ is. absurd (omega arith)) none in
    let from-11 = above low (eqb-false number 10 past-10.0) in
    let past-11 = took_second (eqb number 11) (λ is. absurd (omega arith)) past-10.1 in
    let from-12 = above from-11 (eqb-false number 11 past-11.0) in
    let past-12 = took_second (eqb number 12) (version_coded e said) past-11.1 in
    let from-13 = above from-12 (eqb-false number 12 past-12.0) in
    let past-13 = took_second (eqb number 13) (λ is. absurd (omega arith)) past-12.1 in
    let from-14 = above from-13 (eqb-false number 13 past-13.0) in
    let past-14 = took_second (eqb number 14) (λ is. absurd (omega arith)) past-13.1 in
    let from-15 = above from-14 (eqb-false number 14 past-14.0) in
    let past-15 = took_second (eqb number 15) (λ is. absurd (omega arith)) past-14.1 in
    let from-16 = above from-15 (eqb-false number 15 past-15.0) in
    let past-16 = took_second (eqb number 16) (λ is. absurd (omega arith)) past-15.1 in
    let from-17 = above from-16 (eqb-false number 16 past-16.0) in
    let past-17 = took_second (eqb number 17) (λ is. absurd (omega arith)) past-16.1 in
    let from-18 = above from-17 (eqb-false number 17 past-17.0) in
    let past-18 = took_second (eqb number 18) (λ is. absurd (omega arith)) past-17.1 in
    let from-19 = above from-18 (eqb-false number 18 past-18.0) in
    let past-19 = took_second (eqb number 19) (λ is. absurd (omega arith)) past-18.1 in
    let from-20 = above from-19 (eqb-false number 19 past-19.0) in
    let past-20 = took_second (eqb number 20) (λ is. absurd (omega arith)) past-19.1 in
    let from-21 = above from-20 (eqb-false number 20 past-20.0) in
    let past-21 = took_second (eqb number 21) (λ is. absurd (omega arith)) past-20.1 in
    let from-22 = above from-21 (eqb-false number 21 past-21.0) in
    let past-22 = took_second (eqb number 22) (λ is. absurd (omega arith)) past-21.1 in
    let from-23 = above from-22 (eqb-false number 22 past-22.0) in
    let past-23 = took_second (eqb number 23) (λ is. absurd (omega arith)) past-22.1 in
    let from-24 = above from-23 (eqb-false number 23 past-23.0) in
    let past-24 = took_second (eqb number 24) (λ is. absurd (omega arith)) past-23.1 in
    let from-25 = above from-24 (eqb-false number 24 past-24.0) in
    omega arith

-- and no number below has one
pub uncoded : (e : Endpoint) (number said : ℕ) → number < 10 → close_code e number said ≡ 0
unfolding close_code
uncoded e number said low =
    simp (
      ne_eqb number 10 (λ same. omega arith),
      ne_eqb number 11 (λ same. omega arith),
      ne_eqb number 12 (λ same. omega arith),
      ne_eqb number 13 (λ same. omega arith),
      ne_eqb number 14 (λ same. omega arith),
      ne_eqb number 15 (λ same. omega arith),
      ne_eqb number 16 (λ same. omega arith),
      ne_eqb number 17 (λ same. omega arith),
      ne_eqb number 18 (λ same. omega arith),
      ne_eqb number 19 (λ same. omega arith),
      ne_eqb number 20 (λ same. omega arith),
      ne_eqb number 21 (λ same. omega arith),
      ne_eqb number 22 (λ same. omega arith),
      ne_eqb number 23 (λ same. omega arith),
      ne_eqb number 24 (λ same. omega arith),
    )

-- and so has that of a message that is not read, and of one whose content is not heard

reading_coded : (e : Endpoint) (s : List ℕ) (refusal : Refusal Reason) → reading_of s ≡ Err refusal → close_code e (refusal_number refusal) (said_by s) ≡ 0 → ⊥
reading_coded e s refusal stops =
    let among = read_refused s refusal stops in
    coded e (refusal_number refusal) (said_by s) (omega (arith, among.0)) (omega (arith, among.1))

carried_coded : (e : Endpoint) (s : List ℕ) (pipe : Offer) (m : Message) (refusal : Refusal-of-open) → carried_by e s pipe m ≡ Err refusal
    → close_code e (refusal_number-of-open refusal) (said_by s) ≡ 0 → ⊥
carried_coded e s pipe m refusal stops =
    let among = subst CarriedBounded stops (carried_bounded e s pipe m) in
    coded e (refusal_number-of-open refusal) (said_by s) (omega (arith, among.0)) (omega (arith, among.1))

module _ (Holds : Received → Type 0) (e : Endpoint) (s : List ℕ) (pipe : Offer) where
  by_test : (fails : Bool) (refusal next : Received) → Holds refusal → (fails ≡ false → Holds next) → Holds (cond fails refusal next)
  by_test true refusal next first second = first
  by_test false refusal next first second = second refl

  by_content : (carried : Carried) (refuse : ℕ → Received) (next : Content → Received) → ((refusal : Refusal-of-open) → carried ≡ Err refusal → Holds (refuse (refusal_number-of-open refusal)))
      → ((content : Content) → carried ≡ Ok content → Holds (next content)) → Holds (if_carried carried refuse next)
  by_content (Err refusal) refuse next first second = first refusal refl
  by_content (Ok content) refuse next first second = second content refl

  by_reading : (reading : Result Message (Refusal Reason)) (refuse : ℕ → ℕ → Received) (next : Message → Received) → ((refusal : Refusal Reason) → reading ≡ Err refusal → Holds (refuse (refusal_number refusal) refusal.said))
      → ((m : Message) → reading ≡ Ok m → Holds (next m)) → Holds (if_read reading refuse next)
  by_reading (Err refusal) refuse next first second = first refusal refl
  by_reading (Ok m) refuse next first second = second m refl

  module _ (stays : (number : ℕ) → Holds (unchanged e number)) (closes : (number : ℕ) → (close_code e number (said_by s) ≡ 0 → ⊥) → Holds (refused e number (said_by s)))
      (accepts : (m : Message) (content : Content) → Passed e s pipe m content → Holds (accepted e m (hear_row e m) content)) where
    -- of a message that is read, what the bytes say is its type
    read_closes : (m : Message) → reading_of s ≡ Ok m → (number : ℕ) → (close_code e number (said_by s) ≡ 0 → ⊥) → Holds (refused e number (type_of m.message))
    read_closes m read number has_code = subst (λ (said : ℕ). Holds (refused e number said)) (ap said_in read) (closes number has_code)

    message_holds : eqb e.phase shut ≡ false → (m : Message) → reading_of s ≡ Ok m → Holds (hear_message e s pipe m)
    unfolding hear_message hear_content
    message_holds alive m read =
        by_test (too_large e m) _ _ (read_closes m read 16 (coded e 16 (said_by s) (omega arith) (omega arith))) (λ small.
        by_test (forbidden e m) _ _ (read_closes m read 17 (coded e 17 (said_by s) (omega arith) (omega arith))) (λ allowed.
        by_content (carried_by e s pipe m) _ _ (λ refusal stops. read_closes m read (refusal_number-of-open refusal) (carried_coded e s pipe m refusal stops)) (λ content carried.
        by_test (above_offer (hear_row e m)) _ _ (read_closes m read 23 (coded e 23 (said_by s) (omega arith) (omega arith))) (λ below.
        by_test (unmatched e m) _ _ (read_closes m read 24 (coded e 24 (said_by s) (omega arith) (omega arith))) (λ matched.
        accepts m content (record { alive = alive; read = read; small = small; allowed = allowed; carried = carried; below = below; matched = matched }))))))

    pub hear_holds : Holds (hear_of e s pipe)
    unfolding hear_of
    hear_holds = go (eqb e.phase shut) refl
      where
        go : (t : Bool) → eqb e.phase shut ≡ t → Holds (cond t (unchanged e 3) (if_read (reading_of s) (refused e) (hear_message e s pipe)))
        go true is-shut = stays 3
        go false alive = by_reading (reading_of s) (refused e) (hear_message e s pipe) (λ refusal stops. subst (λ (said : ℕ). Holds (refused e (refusal_number refusal) said)) (ap said_in stops) (closes (refusal_number refusal) (reading_coded e s refusal stops))) (message_holds alive)

    pub received_holds : (room : ℕ) → Holds (received_of e s pipe room)
    unfolding received_of
    received_holds room = go (not (good e)) (ltb room 14)
      where
        go : (bad short : Bool) → Holds (cond bad (unchanged e 1) (cond short (unchanged e 2) (hear_of e s pipe)))
        go true short = stays 1
        go false true = stays 2
        go false false = hear_holds
