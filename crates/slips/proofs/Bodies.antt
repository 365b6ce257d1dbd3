-- Slips about a body that is missing: each breaks a clause of demand 3 once one DATA was sent and heard. Assumes nothing.
use mathlib.Core.Path.{◌≡◌, ap, refl, sym}
use mathlib.Core.List.{List, [], ◌∷◌}
use native.Mathlib.Omega.{arith}
use lib.Dec.{lit<}
use Rattle.bytes_be.proofs.Tests.{clash}
use Rattle.sending.specs.Calls.{Body, Missing, Given, Datum}
use Rattle.session.specs.World.{Server}
use Rattle.slips.specs.Slips.{hearing_missing_as_empty, HearingMissingAsEmptyFails, sending_empty_as_missing, SendingEmptyAsMissingFails}
use Rattle.slips.specs.Slips.{lowering_twice, LoweringTwiceFails, never_lowering, NeverLoweringFails}
use Rattle.slips.proofs.Runs.{after_report, at_rest, running}

-- the one accepted has another body than the one sent

abbrev first_body : List Datum → Body
first_body [] = Missing
first_body (datum ∷ rest) = datum.body

other_body : Given [] ≡ Missing → ⊥
other_body e = clash cc

pub hearing_missing_as_empty_fails : HearingMissingAsEmptyFails
unfolding running
hearing_missing_as_empty_fails demand =
    let holds = after_report hearing_missing_as_empty demand 1 (lit< tt) Missing in
    other_body (ap first_body (holds.data_leads Server).1)

pub sending_empty_as_missing_fails : SendingEmptyAsMissingFails
unfolding running
sending_empty_as_missing_fails demand =
    let holds = after_report sending_empty_as_missing demand 1 (lit< tt) (Given []) in
    other_body (ap first_body (sym (holds.data_leads Server).1))

-- in a batch of 2 the client has one to go: at rest the server is idle, or has two to come

pub lowering_twice_fails : LoweringTwiceFails
unfolding running
lowering_twice_fails demand =
    let holds = after_report lowering_twice demand 2 (lit< tt) Missing in
    absurd (omega (arith, (holds.same_at_rest (at_rest _ refl refl refl refl)).0))

pub never_lowering_fails : NeverLoweringFails
unfolding running
never_lowering_fails demand =
    let holds = after_report never_lowering demand 2 (lit< tt) Missing in
    absurd (omega (arith, (holds.same_at_rest (at_rest _ refl refl refl refl)).1))
