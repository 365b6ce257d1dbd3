-- "Struct: field 1 repeated, an entry {1 key, 2 Value} .. A Value holds exactly one of .. list (field 1 repeated, Values). No other fields
-- inside these." Behind tag and payload the tests at a field run: wire type, repetition, UTF-8, what is allowed, depth; only then inside.
use Rattle.std.specs.Prelude.{ℕ, zero, suc, List, [], Bool, true, false, cond, not, ◌&&◌, ◌||◌, length, ltb, leb, eqb}
use Rattle.bytes_be.specs.Part.{between}
use Rattle.utf8.specs.Text.{well_formed}
use Rattle.wire.specs.declared.Kind.TheVariants.{WireType, Repeated, BadText, Other, TooDeep}
use Rattle.wire.specs.declared.Field.{Field}
use Rattle.wire.specs.Fields.{fields_of}
use Rattle.params.specs.declared.Seen.{Seen}
use Rattle.params.specs.Message.{Check, good, fault, refuse_if, lacking_of, and_then, walk}
use Rattle.params.specs.Keys.{find_in, is_found}

-- ---- "A Value holds exactly one of 1 null (0), 2 number (8 bytes, little-endian double), 3 string, 4 bool (0 or 1), 5 Struct, 6 list"

-- "1 null .. 2 number .. 3 string, 4 bool .. 5 Struct, 6 list", or none of them
abbrev pub by_kind : {A : Type 0} → ℕ → A → A → A → A → A → A → A → A
by_kind kind null number text bool struct list other =
    cond (eqb kind 1) null
    (cond (eqb kind 2) number
    (cond (eqb kind 3) text
    (cond (eqb kind 4) bool
    (cond (eqb kind 5) struct
    (cond (eqb kind 6) list
    other)))))

-- each "with its own wire type": a varint, eight bytes, or a length and so many bytes
unfoldable pub value_wire : ℕ → ℕ → Bool
value_wire number wire = by_kind number (eqb wire 0) (eqb wire 1) (eqb wire 2) (eqb wire 0) (eqb wire 2) (eqb wire 2) true

-- "bad UTF-8 in any string"
unfoldable pub value_text : List ℕ → ℕ → ℕ → ℕ → Bool
value_text s number at next = cond (eqb number 3) (well_formed (between s at next)) true

-- "null (0)", "bool (0 or 1)", "No other fields inside these."
unfoldable pub value_allowed : ℕ → ℕ → Bool
value_allowed number value = cond (eqb number 1) (eqb value 0) (cond (eqb number 4) (leb value 1) (leb number 6))

-- "exactly one": `held` is the number of the field in front, or 0; the same again is repeated, another is one kind too many
unfoldable pub value_rule : List ℕ → ℕ → Field → Check
value_rule s held field =
    refuse_if (not (value_wire field.number field.wire)) WireType field.tag
    (refuse_if (eqb held field.number) Repeated field.tag
    (refuse_if (not (value_text s field.number field.at field.next)) BadText field.tag
    (refuse_if (not (eqb held 0 && value_allowed field.number field.value)) Other field.tag
    good)))

-- a field of a Value, where `inner` judges a Struct or a list, which counts a level
unfoldable pub value_field : (Field → Check) → List ℕ → ℕ → Field → Check
value_field inner s held field = and_then (value_rule s held field) (cond (ltb field.number 5) good (inner field))

abbrev pub value_move : ℕ → Field → ℕ
value_move held field = field.number

abbrev pub value_done : ℕ → ℕ → Check
value_done to held = lacking_of to (not (eqb held 0))

-- the Value from `from` to `to`
unfoldable pub value_check : (Field → Check) → List ℕ → ℕ → ℕ → Check
value_check inner s from to = walk (value_field inner s) value_move (value_done to) (fields_of s from to) 0

-- ---- "Struct: field 1 repeated, an entry {1 key, 2 Value}, each at most once, either order"

-- a field of a message that holds bytes in fields 1 to `most`, and has no other
unfoldable pub bytes_rule : ℕ → Bool → Field → Check
bytes_rule most repeated field =
    refuse_if (leb field.number most && not (eqb field.wire 2)) WireType field.tag
    (refuse_if repeated Repeated field.tag
    (refuse_if (ltb most field.number) Other field.tag
    good))

-- "no key twice in one Struct", which begins at `from` and has the tag of the key's entry at `tag`; then "bad UTF-8 in any string"
unfoldable pub key_rule : List ℕ → ℕ → ℕ → Field → Check
key_rule s from tag field =
    refuse_if (is_found (find_in s from tag (between s field.at field.next))) Repeated field.tag
    (refuse_if (not (well_formed (between s field.at field.next))) BadText field.tag
    good)

-- whether an entry has had a field of this number
unfoldable pub seen_of : Seen → ℕ → Bool
seen_of seen number = cond (eqb number 1) seen.key (cond (eqb number 2) seen.value false)

unfoldable pub entry_field : (Field → Check) → List ℕ → ℕ → ℕ → Seen → Field → Check
entry_field inner s from tag seen field =
    and_then (bytes_rule 2 (seen_of seen field.number) field)
    (cond (eqb field.number 1) (key_rule s from tag field) (value_check inner s field.at field.next))

abbrev pub entry_move : Seen → Field → Seen
entry_move seen field =
    record { key = seen.key || eqb field.number 1; value = seen.value || not (eqb field.number 1) }

-- "no key means the empty key; no Value is refused"
unfoldable pub entry_done : List ℕ → ℕ → ℕ → ℕ → Seen → Check
entry_done s from tag to seen =
    refuse_if (not seen.key && is_found (find_in s from tag [])) Repeated to
    (lacking_of to seen.value)

-- the entry from `start` to `to`
unfoldable pub entry_check : (Field → Check) → List ℕ → ℕ → ℕ → ℕ → ℕ → Check
entry_check inner s from tag start to =
    walk (entry_field inner s from tag) entry_move (entry_done s from tag to) (fields_of s start to)
    (record { key = false; value = false })

-- ---- "list (field 1 repeated, Values)", and the Struct that begins at `from`

unfoldable pub item_field : (Field → Check) → List ℕ → Bool → ℕ → Field → Check
item_field inner s list from field =
    and_then (bytes_rule 1 false field)
    (cond list
    (value_check inner s field.at field.next)
    (entry_check inner s from field.tag field.at field.next))

abbrev pub item_judge : (Field → Check) → List ℕ → Bool → ℕ → Unit {0} → Field → Check
item_judge inner s list from seen field = item_field inner s list from field

abbrev pub item_move : Unit {0} → Field → Unit {0}
item_move seen field = seen

abbrev pub item_done : Unit {0} → Check
item_done seen = good

-- the list or the Struct from `from` to `to`
unfoldable pub items_check : (Field → Check) → List ℕ → Bool → ℕ → ℕ → Check
items_check inner s list from to = walk (item_judge inner s list from) item_move item_done (fields_of s from to) tt

-- ---- "Each Struct or list counts one level, the outermost is level 1, at most 8 levels may nest."

-- the Struct (5) or list (6) that a field holds, where so many levels may still nest
unfoldable pub inside : ℕ → List ℕ → Field → Check
inside zero s field = fault TooDeep field.tag
inside (suc levels) s field = items_check (inside levels s) s (eqb field.number 6) field.at field.next

-- the outermost Struct is level 1, and seven more may nest inside it
unfoldable pub struct_check : List ℕ → ℕ → ℕ → Check
struct_check s from to = items_check (inside 7 s) s false from to

-- "read alone, its own Struct or list is level 1": all eight may still nest
unfoldable pub alone_check : List ℕ → Check
alone_check s = value_check (inside 8 s) s 0 (length s)
