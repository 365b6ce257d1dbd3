-- "A scalar Value is answered as null, number, boolean or text place. One that holds a Struct or list is answered as such, an unreadable
-- one as 18; read alone, its own Struct or list is level 1."
use Rattle.std.specs.Prelude.{ℕ, List, length, eqb, Result, Ok, Err}
use Rattle.std.specs.Float.{binary64}
use Rattle.std.specs.Float.Ieee.{of_bits}
use Rattle.wire.specs.declared.Kind.TheVariants.{Other}
use Rattle.wire.specs.declared.Fault.{Fault}
use Rattle.wire.specs.declared.Field.{Field}
use Rattle.wire.specs.Fields.{place_of, fault_number, Reading, field_at}
use Rattle.double.specs.Double.{bits_at}
use Rattle.params.specs.Message.{Check}
use Rattle.params.specs.Rules.{by_kind, alone_check}
use Rattle.terms.specs.declared.Value.{Value}
use Rattle.terms.specs.declared.Value.TheVariants.{Null, Number, Text, Boolean, Struct, List as Value-as-List}

-- "1 null (0), 2 number (8 bytes, little-endian double), 3 string, 4 bool (0 or 1), 5 Struct, 6 list"
unfoldable pub held_by : List ℕ → Field → Result Value Fault
held_by s field =
    by_kind field.number
    (Ok Null)
    (Ok (Number (of_bits binary64 (bits_at s field.at)) (bits_at s field.at)))
    (Ok (Text (place_of field)))
    (Ok (Boolean (eqb field.value 1)))
    (Ok Struct)
    (Ok Value-as-List)
    (Err (record { kind = Other; at = field.tag }))

abbrev pub from_reading : List ℕ → Reading → Result Value Fault
from_reading s (Ok field) = held_by s field
from_reading s (Err why) = Err why

-- what the one field of the Value from `from` to `to` holds
unfoldable pub value_at : List ℕ → ℕ → ℕ → Result Value Fault
value_at s from to = from_reading s (field_at s from to)

abbrev pub if_good : Check → Result Value Fault → Result Value Fault
if_good (Ok passed) value = value
if_good (Err why) value = Err why

-- a Value read alone
unfoldable pub value_of : List ℕ → Result Value Fault
value_of s = if_good (alone_check s) (value_at s 0 (length s))

abbrev pub value_number : Result Value Fault → ℕ
value_number (Ok value) = 0
value_number (Err why) = fault_number why
