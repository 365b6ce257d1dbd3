-- "field 0, tags above 2^32-1, other wire types, a varint over 10 bytes or above 2^64-1, .. a length past the end": what is refused at a
-- field of any message, with the place of its tag.
use Rattle.std.specs.Prelude.{ℕ, zero, suc, ◌≡◌, ◌+◌, ◌-◌, ◌/◌, ◌%◌, List, [], ◌∷◌, cond, ◌&&◌, length, ltb, leb, eqb, Option, Some, None, Result, Ok, Err}
use Rattle.std.specs.Borrow.{Bor}
use Rattle.std.specs.Iterator.{YieldsFirst}
use Rattle.bytes_be.specs.declared.Place.{Place}
use Rattle.wire.specs.declared.Kind.{Kind}
use Rattle.wire.specs.declared.Kind.TheVariants.{CutShort, BadVarint, WireType}
use Rattle.wire.specs.declared.Field.{Field}
use Rattle.wire.specs.declared.Fields.{Fields}
use Rattle.wire.specs.declared.Fault.{Fault}
use Rattle.wire.specs.Varint.{Said, varint_at}

-- where a field has its payload
abbrev pub place_of : Field → Place
place_of field = record { at = field.at; length = field.next - field.at }

-- a field, or why and where it cannot be read
abbrev pub Reading : Type 0
Reading = Result Field Fault

-- "refused as 18", whatever the fault
abbrev pub fault_number : Fault → ℕ
fault_number why = 18

abbrev pub fault : Kind → ℕ → Reading
fault kind at = Err (record { kind = kind; at = at })

-- what follows a varint that was read, or the fault of the field whose tag is at `tag`
abbrev pub on_varint : ℕ → (ℕ → ℕ → Reading) → Said → Reading
on_varint tag then (Ok varint) = then varint.value varint.next
on_varint tag then (Err kind) = fault kind tag

-- "a length past the end": of the message that holds the field
abbrev pub sized : ℕ → ℕ → ℕ → ℕ → ℕ → ℕ → Reading
sized tag number wire at end size =
    cond (ltb (end - at) size)
    (fault CutShort tag)
    (Ok (record { tag = tag; number = number; wire = wire; value = 0; at = at; next = at + size }))

abbrev pub numbered : ℕ → ℕ → ℕ → ℕ → ℕ → Reading
numbered tag number at value next =
    Ok (record { tag = tag; number = number; wire = 0; value = value; at = at; next = next })

-- wire types 0 (a varint), 1 (eight bytes), 2 (a length and so many bytes) and 5 (four bytes); "other wire types"
unfoldable pub payload_at : List ℕ → ℕ → ℕ → ℕ → ℕ → ℕ → Reading
payload_at s tag number wire at end =
    cond (eqb wire 0) (on_varint tag (numbered tag number at) (varint_at s at end))
    (cond (eqb wire 1) (sized tag number 1 at end 8)
    (cond (eqb wire 2) (on_varint tag (λ size from. sized tag number 2 from end size) (varint_at s at end))
    (cond (eqb wire 5) (sized tag number 5 at end 4)
    (fault WireType tag))))

-- "field 0, tags above 2^32-1": a tag is eight times the field's number, and its wire type
abbrev pub tagged : List ℕ → ℕ → ℕ → ℕ → ℕ → Reading
tagged s tag end value next =
    cond (leb 8 value && leb value 0xFFFF_FFFF) (payload_at s tag (value / 8) (value % 8) next end) (fault BadVarint tag)

-- the field whose tag is at place `at` of a message that ends at `end`; one that ends behind the bytes is cut short
unfoldable pub field_at : List ℕ → ℕ → ℕ → Reading
field_at s at end =
    cond (ltb (length s) end) (fault CutShort at) (on_varint at (tagged s at end) (varint_at s at end))

-- the field, and those behind it
abbrev pub and_behind : (ℕ → List Reading) → Reading → List Reading
and_behind behind (Ok field) = Ok field ∷ behind field.next
and_behind behind (Err fault) = Err fault ∷ []

-- the fields of a message from place `at` on, in order, up to the first that cannot be read; at most so many
unfoldable pub fields_within : ℕ → List ℕ → ℕ → ℕ → List Reading
fields_within zero s end at = []
fields_within (suc left) s end at = cond (ltb at end) (and_behind (fields_within left s end) (field_at s at end)) []

-- no field is shorter than a byte, so there are no more of them than bytes
unfoldable pub fields_of : List ℕ → ℕ → ℕ → List Reading
fields_of s from to = fields_within (to - from) s to from

-- those that a loop over them has not been given yet
abbrev pub fields_left : Fields → List Reading
fields_left it = fields_of it.s.now it.at it.to

-- a loop over the fields from a place on that has been given none yet
abbrev pub begun_at : Bor (List ℕ) → ℕ → ℕ → Fields
begun_at s from to = record { s = s; at = from; to = to }

-- where the next field begins after an answer: behind the field that was given, and after a fault, which is the last, at the end
abbrev pub place_after : Fields → Option Reading → ℕ
place_after it None = it.at
place_after it (Some (Ok field)) = field.next
place_after it (Some (Err fault)) = it.to

-- the same message, from there on
abbrev pub moved_by : Fields → Option Reading → Fields
moved_by it answer = record { s = it.s; at = place_after it answer; to = it.to }

-- the first of those left is given, or none where none is left, and the iterator is left over the same message where the next field begins
pub record NextAnswer (before : Fields) (answer : Option Reading) (after : Fields) : Type 0 where
  pub first : YieldsFirst fields_left before answer after
  pub left : after ≡ moved_by before answer
