-- Slips that are seen by computing a run: each breaks a clause of demand 3 at its end. Assumes nothing.
use mathlib.Core.Path.{◌≡◌, ap, refl}
use mathlib.Core.List.{List, [], ◌∷◌}
use mathlib.Core.Bool.{true, false}
use Prim.Native.Nat.{ℕ}
use native.Mathlib.Omega.{arith}
use lib.Dec.{lit<}
use lib.ListN.{get_or, length}
use Rattle.bytes_be.proofs.Tests.{clash}
use Rattle.sending.specs.Calls.{Given, CLOSE}
use Rattle.session.specs.World.{Client, Server, Going, WroteClose}
use Rattle.slips.specs.Slips.{counting_confirmations, CountingConfirmationsFails, reading_low_byte_first, ReadingLowByteFirstFails}
use Rattle.slips.specs.Slips.{losing_data, LosingDataFails, agreeing_above_offer, AgreeingAboveOfferFails, running_past_count, RunningPastCountFails}
use Rattle.slips.specs.Slips.{passing_over_close, PassingOverCloseFails, hearing_ready_as_close, HearingReadyAsCloseFails}
use Rattle.slips.proofs.Runs.{after_report, agreeing, at_rest, at_the_end, calls, hears, report, room, running}

-- an offer of 1 is heard as one of 256
pub reading_low_byte_first_fails : ReadingLowByteFirstFails
unfolding running
reading_low_byte_first_fails demand =
    let holds = at_the_end reading_low_byte_first demand (agreeing 1 1 []) (λ w. omega arith) in
    absurd (omega (arith, ap (λ (counts : List ℕ). get_or counts 0 0) (holds.readies_lead Client).1))

-- of an offer of 1 a batch of 2 is agreed
pub agreeing_above_offer_fails : AgreeingAboveOfferFails
unfolding running
agreeing_above_offer_fails demand =
    let holds = at_the_end agreeing_above_offer demand (agreeing 1 2 []) (λ w. omega arith) in
    absurd (omega (arith, (holds.within_offers Server).0))

-- one DATA was sent, none accepted, and nothing is on its way
pub losing_data_fails : LosingDataFails
unfolding running
losing_data_fails demand =
    let holds = after_report losing_data demand 1 (lit< tt) (Given []) in
    clash (ap length (holds.nothing_lost Server (λ closed. clash cc) refl).0)

-- in a batch of 1 two DATA are accepted
pub running_past_count_fails : RunningPastCountFails
unfolding running
running_past_count_fails demand =
    let twice = calls Client (report false (Given [])) ∷ hears Server ∷ calls Client (report false (Given [])) ∷ hears Server ∷ [] in
    let holds = at_the_end running_past_count demand (agreeing 1 1 twice) (λ w. omega arith) in
    absurd (omega (arith, holds.within))

-- in a batch of 2 one DATA is confirmed: the client is idle and waits for an offer, and the server is in the batch and may make none
pub counting_confirmations_fails : CountingConfirmationsFails
unfolding running
counting_confirmations_fails demand =
    let once = calls Client (report true (Given [])) ∷ hears Server ∷ hears Client ∷ [] in
    let holds = at_the_end counting_confirmations demand (agreeing 2 2 once) (λ w. omega arith) in
    absurd (omega (arith, ((holds.may_send (at_rest _ refl refl refl refl)).accepted room (omega arith)).0))

-- the client closes, its CLOSE arrives, and the server goes on
pub passing_over_close_fails : PassingOverCloseFails
unfolding running
passing_over_close_fails demand =
    let holds = at_the_end passing_over_close demand (agreeing 1 1 (calls Client (CLOSE 0) ∷ hears Server ∷ [])) (λ w. omega arith) in
    holds.close_arrives Client refl refl refl

-- the client has heard a CLOSE that the server did not write
pub hearing_ready_as_close_fails : HearingReadyAsCloseFails
unfolding running
hearing_ready_as_close_fails demand =
    let holds = at_the_end hearing_ready_as_close demand (agreeing 1 1 []) (λ w. omega arith) in
    let wrote : Going ≡ WroteClose = holds.close_was_written Client refl in
    clash cc
