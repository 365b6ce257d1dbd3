-- "Every breach of these rules or of those for Struct and Value below is refused as 18": a message is judged field by field, from left to
-- right, and its first fault is the answer.
use Rattle.std.specs.Prelude.{ℕ, List, [], ◌∷◌, Bool, cond, not, eqb, Result, Ok, Err}
use Rattle.bytes_be.specs.declared.Place.{Place}
use Rattle.wire.specs.declared.Kind.{Kind}
use Rattle.wire.specs.declared.Kind.TheVariants.{Other}
use Rattle.wire.specs.declared.Fault.{Fault}
use Rattle.wire.specs.declared.Field.{Field}
use Rattle.wire.specs.Fields.{Reading, fault_number, place_of}

-- whether something is as it must be, and why and where it is not
abbrev pub Check : Type 0
Check = Result (Unit {0}) Fault

-- nothing is at fault
abbrev pub good : Check
good = Ok tt

abbrev pub check_number : Check → ℕ
check_number (Ok passed) = 0
check_number (Err why) = fault_number why

abbrev pub fault : Kind → ℕ → Check
fault kind at = Err (record { kind = kind; at = at })

-- the fault where the test holds, and else what comes of the tests behind it
abbrev pub refuse_if : Bool → Kind → ℕ → Check → Check
refuse_if test kind at behind = cond test (fault kind at) behind

-- a message that ends at `to` without what it must have is at fault there
abbrev pub lacking_of : ℕ → Bool → Check
lacking_of to there = refuse_if (not there) Other to good

-- what comes behind, where what stands before it is good
abbrev pub and_then : Check → Check → Check
and_then (Ok passed) behind = behind
and_then (Err why) behind = Err why

-- the fields of a message: each is judged by what was seen before it, and `done` says what is lacking at the end
unfoldable pub walk : {Seen : Type 0} → (Seen → Field → Check) → (Seen → Field → Seen) → (Seen → Check) → List Reading → Seen → Check
walk judge move done [] seen = done seen
walk judge move done (Err why ∷ rest) seen = Err why
walk judge move done (Ok field ∷ rest) seen =
    and_then (judge seen field) (walk judge move done rest (move seen field))

-- what `answer` makes of the first field that `test` holds for, or `none` where no field is such
unfoldable pub first_of : {A : Type 0} → (Field → Bool) → (Field → A) → A → List Reading → A
first_of test answer none [] = none
first_of test answer none (Err why ∷ rest) = none
first_of test answer none (Ok field ∷ rest) = cond (test field) (answer field) (first_of test answer none rest)

abbrev pub has_number : ℕ → Field → Bool
has_number number field = eqb field.number number

abbrev pub nowhere : Place
nowhere = record { at = 0; length = 0 }

-- where the first field of a number has its payload; the empty place at 0 where there is none
unfoldable pub place_in : ℕ → List Reading → Place
place_in number fields = first_of (has_number number) place_of nowhere fields
