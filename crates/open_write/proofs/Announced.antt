-- The limit parameter that was written is a readable Struct, and announces the limit, wherever it stands. Assumes nothing.
use Rattle.std.specs.Prelude.{Ok, Some}
use Prim.Native.Nat.{ℕ, ◌+◌, ◌-◌, ◌≤◌, ◌<◌, ◌^◌}
use mathlib.Core.Path.{◌≡◌, refl, sym, ap, ◌∙◌}
use mathlib.Core.List.{List, [], ◌∷◌, ◌++◌, append_assoc}
use mathlib.Core.Bool.{true}
use lib.ListN.{length, drop, length-append}
use native.Mathlib.Omega.{arith}
use Rattle.bytes_be.specs.Part.{part}
use Rattle.bytes_be.proofs.Parts.{part_there, drop_past}
use Rattle.bytes_be.proofs.Sameness.{equal_same}
use Rattle.utf8.specs.Text.{table, due_behind, rest as Text·rest, well_formed}
use Rattle.wire.specs.declared.Field.{Field}
use Rattle.wire.specs.Fields.{Reading, field_at, fields_of}
use Rattle.wire.specs.Written.{tag_of, eight_field, bytes_field}
use Rattle.wire.proofs.Readings.{no_fields}
use Rattle.wire.proofs.Shortest.{varint_at_most}
use Rattle.wire.proofs.Front.{begins}
use Rattle.wire.proofs.Written.{bytes_field_at, eight_field_at, length_bytes_field, length_tag, eight_ends, eight_first, Stands, bytes_stand}
use Rattle.double.specs.Double.{bytes_of}
use Rattle.double.proofs.Order.{length_bytes_of}
use Rattle.double.proofs.Limits.{limit_back}
use Rattle.params.specs.Message.{good, walk, first_of, place_in}
use Rattle.params.specs.Keys.{key_of, value_place, find_in}
use Rattle.params.specs.Rules.{value_wire, value_text, value_allowed, value_rule, value_field, value_check, bytes_rule, key_rule, seen_of, entry_field, entry_done, entry_check, item_field, items_check, struct_check}
use Rattle.terms.specs.Value.{held_by, value_at}
use Rattle.terms.specs.Announced.{limit_key, limit_in}
use Rattle.open_write.specs.Frame.{limit_struct}

abbrev key : List ℕ
key = limit_key

key_text : well_formed key ≡ true
unfolding well_formed Text·rest due_behind table
key_text = refl

module _ (limit : ℕ) (s : List ℕ) (from : ℕ) (rest : List ℕ) (stands : drop from s ≡ limit_struct limit ++ rest)
    (there : from + length (limit_struct limit) ≤ length s) where
  abbrev value : List ℕ
  value = eight_field 2 (bytes_of limit)

  abbrev entry : List ℕ
  entry = bytes_field 1 key ++ bytes_field 2 value

  -- the one field of the Struct, the two of its entry, the one of the Value
  abbrev entry_field_at : Field
  entry_field_at = bytes_field_at from 1 entry

  abbrev key_field_at : Field
  key_field_at = bytes_field_at entry_field_at.at 1 key

  abbrev value_field_at : Field
  value_field_at = bytes_field_at key_field_at.next 2 value

  abbrev number_field_at : Field
  number_field_at = eight_field_at value_field_at.at 2 (bytes_of limit)

  nine : length value ≡ 9
  unfolding eight_field
  nine = length-append (tag_of 2 1) (bytes_of limit) ∙ omega (arith, length_tag 2 1 (omega arith) (omega arith), length_bytes_of limit)

  small_entry : length entry < 2 ^ 64
  small_entry = omega (arith, length-append (bytes_field 1 key) (bytes_field 2 value), length_bytes_field 1 key (omega arith), length_bytes_field 2 value (omega arith), nine, varint_at_most 17, varint_at_most (length value))

  the_entry : Stands s from entry_field_at.next there 1 entry rest
  the_entry = bytes_stand s from entry_field_at.next there 1 entry rest (omega arith, omega arith) small_entry stands (omega arith)

  -- the entry ends where its Value does
  entry_ends : value_field_at.next ≡ entry_field_at.next
  entry_ends = omega (arith, the_entry.ends, length-append (bytes_field 1 key) (bytes_field 2 value))

  the_key : Stands s entry_field_at.at entry_field_at.next there 1 key (bytes_field 2 value ++ rest)
  the_key =
      bytes_stand s entry_field_at.at entry_field_at.next there 1 key (bytes_field 2 value ++ rest) (omega arith, omega arith) (omega arith)
      (the_entry.payload ∙ append_assoc (bytes_field 1 key) (bytes_field 2 value) rest) (omega (arith, entry_ends))

  the_value : Stands s key_field_at.next entry_field_at.next there 2 value rest
  the_value =
      bytes_stand s key_field_at.next entry_field_at.next there 2 value rest (omega arith, omega arith) (omega (arith, nine))
      (drop_past s entry_field_at.at (bytes_field 1 key) (bytes_field 2 value ++ rest) (the_entry.payload ∙ append_assoc (bytes_field 1 key) (bytes_field 2 value) rest))
      (omega (arith, entry_ends))

  value_inside : value_field_at.next ≤ length s
  value_inside = rw entry_ends there

  -- the fields of each of the three messages
  struct_fields : fields_of s from entry_field_at.next ≡ Ok entry_field_at ∷ []
  struct_fields = the_entry.first ∙ ap (λ (l : List Reading). Ok entry_field_at ∷ l) (no_fields s entry_field_at.next entry_field_at.next (omega arith))

  entry_fields : fields_of s entry_field_at.at entry_field_at.next ≡ Ok key_field_at ∷ Ok value_field_at ∷ []
  entry_fields =
      the_key.first
      ∙ ap (λ (l : List Reading). Ok key_field_at ∷ l)
      (the_value.first ∙ ap (λ (l : List Reading). Ok value_field_at ∷ l) (no_fields s value_field_at.next entry_field_at.next (omega (arith, entry_ends))))

  value_fields : fields_of s value_field_at.at value_field_at.next ≡ Ok number_field_at ∷ []
  value_fields =
      eight_first s value_field_at.at value_field_at.next value_inside 2 (bytes_of limit) rest (omega arith, omega arith) (length_bytes_of limit) the_value.payload (omega (arith, the_value.ends))
      ∙ ap (λ (l : List Reading). Ok number_field_at ∷ l) (no_fields s number_field_at.next value_field_at.next (omega (arith, the_value.ends)))

  -- it is readable
  pub limit_readable : struct_check s from (from + length (limit_struct limit)) ≡ good
  unfolding struct_check items_check item_field bytes_rule entry_check entry_field seen_of entry_done value_check value_field value_rule value_wire value_text value_allowed key_rule walk find_in first_of
  limit_readable = simp (struct_fields, entry_fields, value_fields, no_fields s from from (omega arith), the_key.whole, key_text)

  -- the number that stands in it
  number_read : field_at s value_field_at.at value_field_at.next ≡ Ok number_field_at
  number_read = (begins s value_field_at.next value_field_at.at number_field_at [] value_fields).read

  number_there : part s number_field_at.at 8 ≡ bytes_of limit
  unfolding eight_field
  number_there =
      let behind = drop_past s value_field_at.at (tag_of 2 1) (bytes_of limit ++ rest) (the_value.payload ∙ append_assoc (tag_of 2 1) (bytes_of limit) rest) in
      ap (part s number_field_at.at) (sym (length_bytes_of limit)) ∙ part_there s number_field_at.at (bytes_of limit) rest behind

  -- and what it announces
  pub limit_announced : 1000000 ≤ limit → limit ≤ 50000000 → limit_in s from (from + length (limit_struct limit)) ≡ Ok (Some limit)
  unfolding limit_in find_in first_of key_of value_place place_in value_at held_by
  limit_announced low high =
      let inside : number_field_at.at + 8 ≤ length s = omega (arith, eight_ends value_field_at.at 2 (bytes_of limit) (length_bytes_of limit), the_value.ends, nine, value_inside) in
      let found : value_field_at.at + (value_field_at.next - value_field_at.at) ≡ value_field_at.next = omega (arith, the_value.ends) in
      simp (
        struct_fields,
        entry_fields,
        the_key.whole,
        equal_same key,
        found,
        number_read,
        limit_back s number_field_at.at limit inside number_there low high,
      )
