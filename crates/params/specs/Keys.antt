-- "Struct: field 1 repeated, an entry {1 key, 2 Value}"; "no key means the empty key".
use Rattle.std.specs.Prelude.{ℕ, List, Bool, true, false, Option, Some, None}
use Rattle.bytes_be.specs.Part.{part_at, same}
use Rattle.bytes_be.specs.declared.Place.{Place}
use Rattle.wire.specs.declared.Field.{Field}
use Rattle.wire.specs.Fields.{fields_of}
use Rattle.params.specs.Message.{first_of, place_in}

-- the key of the entry from `from` to `to`
unfoldable pub key_of : List ℕ → ℕ → ℕ → List ℕ
key_of s from to = part_at s (place_in 1 (fields_of s from to))

-- where its Value stands, without tag and length
unfoldable pub value_place : List ℕ → ℕ → ℕ → Place
value_place s from to = place_in 2 (fields_of s from to)

-- whether the entry that a field holds has this key: keys are compared as bytes
abbrev pub has_key : List ℕ → List ℕ → Field → Bool
has_key s key field = same (key_of s field.at field.next) key

abbrev pub value_found : List ℕ → Field → Option Place
value_found s field = Some (value_place s field.at field.next)

-- the Value of the first entry that has the key, of those of the Struct from `from` to `to`
unfoldable pub find_in : List ℕ → ℕ → ℕ → List ℕ → Option Place
find_in s from to key = first_of (has_key s key) (value_found s) None (fields_of s from to)

abbrev pub is_found : Option Place → Bool
is_found (Some place) = true
is_found None = false
