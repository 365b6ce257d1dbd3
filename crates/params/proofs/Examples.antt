-- Worked examples, computed: each kind of Value, eight levels and nine, a repeated key, a bool of 2, no Value. Assumes nothing.
use Prim.Native.Nat.{ℕ, zero, suc}
use mathlib.Core.Path.{◌≡◌, refl}
use mathlib.Core.List.{List, [], ◌∷◌, ◌++◌}
use lib.ListN.{length}
use Rattle.bytes_be.specs.Ascii.{ascii}
use Rattle.bytes_be.specs.Part.{same}
use Rattle.utf8.specs.Text.{table, due_behind, rest, well_formed}
use Rattle.wire.specs.declared.Kind.TheVariants.{Repeated, Other, TooDeep}
use Rattle.wire.specs.Varint.{said_at, varint_at}
use Rattle.wire.specs.Fields.{payload_at, field_at, fields_within, fields_of}
use Rattle.params.specs.Message.{Check, good, fault, walk, first_of, place_in}
use Rattle.params.specs.Keys.{key_of, value_place, find_in}
use Rattle.params.specs.Rules.{value_wire, value_text, value_allowed, value_rule, value_field, value_check, bytes_rule, key_rule, seen_of, entry_field, entry_done, entry_check, item_field, items_check, inside, struct_check}

-- a field of bytes, and an entry of such fields, where a length has one byte
abbrev bytes : ℕ → List ℕ → List ℕ
bytes tag payload = tag ∷ length payload ∷ payload

abbrev entry : List ℕ → List ℕ → List ℕ
entry key value = bytes 0x0A (bytes 0x0A key ++ bytes 0x12 value)

-- a Struct in which so many others nest
abbrev nesting : ℕ → List ℕ
nesting zero = []
nesting (suc more) = entry (ascii "k") (bytes 0x2A (nesting more))

abbrev checked : List ℕ → Check
checked s = struct_check s 0 (length s)

-- null, 2.5, a text, true, an empty Struct, and under the empty key a list of one null
abbrev kinds : List ℕ
kinds =
    entry (ascii "a") (0x08 ∷ 0 ∷ [])
    ++ entry (ascii "b") (0x11 ∷ 0 ∷ 0 ∷ 0 ∷ 0 ∷ 0 ∷ 0 ∷ 0x04 ∷ 0x40 ∷ [])
    ++ entry (ascii "c") (bytes 0x1A (0xC3 ∷ 0xA9 ∷ 0x21 ∷ []))
    ++ entry (ascii "d") (0x20 ∷ 1 ∷ [])
    ++ entry (ascii "e") (bytes 0x2A [])
    ++ bytes 0x0A (bytes 0x12 (bytes 0x32 (bytes 0x0A (0x08 ∷ 0 ∷ []))))

-- the same key again, behind the Value of its entry
abbrev repeated : List ℕ
repeated = entry (ascii "a") (0x08 ∷ 0 ∷ []) ++ bytes 0x0A (bytes 0x12 (0x08 ∷ 0 ∷ []) ++ bytes 0x0A (ascii "a"))

pub examples :
    (checked kinds ≡ good)
    × (checked (nesting 7) ≡ good)
    × (checked (nesting 8) ≡ fault TooDeep 70)
    × (checked repeated ≡ fault Repeated 15)
    × (checked (entry (ascii "a") (0x20 ∷ 2 ∷ [])) ≡ fault Other 7)
    × (checked (bytes 0x0A (bytes 0x0A (ascii "a"))) ≡ fault Other 5)
unfolding struct_check items_check item_field bytes_rule entry_check entry_field seen_of entry_done value_check value_field value_rule value_wire value_text value_allowed key_rule inside walk find_in first_of key_of value_place place_in same fields_of fields_within field_at payload_at varint_at said_at well_formed rest due_behind table
examples = (refl, refl, refl, refl, refl, refl)
