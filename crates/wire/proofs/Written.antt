-- A field that was written is read back, wherever it stands and whatever follows. Assumes nothing.
use Rattle.std.specs.Prelude.{Ok}
use Prim.Native.Nat.{ℕ, ◌+◌, ◌-◌, ◌*◌, ◌/◌, ◌%◌, ◌^◌, ◌≤◌, ◌<◌}
use mathlib.Core.Path.{◌≡◌, refl, sym, ap, ◌∙◌}
use mathlib.Core.List.{List, [], ◌∷◌, ◌++◌, append_assoc}
use lib.ListN.{length, drop, length-append}
use native.Mathlib.Omega.{arith}
use borrow.Author.Tests.{le-ltb, lt-ltb, le-leb}
use Rattle.bytes_be.specs.Part.{part, between}
use Rattle.bytes_be.proofs.Parts.{part_there, drop_past}
use Rattle.wire.specs.declared.Field.{Field}
use Rattle.wire.specs.Varint.{shortest_within, shortest_of, varint_length}
use Rattle.wire.specs.Fields.{payload_at, field_at, fields_of}
use Rattle.wire.specs.Written.{tag_of, varint_field, eight_field, bytes_field}
use Rattle.wire.proofs.Shortest.{varint_back}
use Rattle.wire.proofs.Readings.{field_within, first_field}

-- ---- how long a field is whose tag has one byte

pub one_byte : (n : ℕ) → n < 128 → shortest_of n ≡ n ∷ []
unfolding shortest_of shortest_within
one_byte n h = simp (lt-ltb n 128 h)

pub length_tag : (number wire : ℕ) → number ≤ 15 → wire < 8 → length (tag_of number wire) ≡ 1
unfolding tag_of
length_tag number wire h w = ap length (one_byte (number * 8 + wire) (omega arith))

pub length_bytes_field : (number : ℕ) (bytes : List ℕ) → number ≤ 15 → length (bytes_field number bytes) ≡ 1 + varint_length (length bytes) + length bytes
unfolding bytes_field varint_length
length_bytes_field number bytes h =
    let sized = shortest_of (length bytes) in
    length-append (tag_of number 2 ++ sized) bytes
    ∙ ap (λ (k : ℕ). k + length bytes) (length-append (tag_of number 2) sized ∙ ap (λ (k : ℕ). k + length sized) (length_tag number 2 h (omega arith)))

-- ---- read back

-- a number that a field may have, so that its tag is at most 2^32 - 1
abbrev pub Numbers : ℕ → Type 0
Numbers number = (0 < number) × (number < 2 ^ 29)

-- the fields that were written at a place
abbrev pub varint_field_at : ℕ → ℕ → ℕ → Field
varint_field_at at number value =
    record {
      tag = at;
      number = number;
      wire = 0;
      value = value;
      at = at + length (tag_of number 0);
      next = at + length (varint_field number value);
    }

abbrev pub eight_field_at : ℕ → ℕ → List ℕ → Field
eight_field_at at number eight =
    record {
      tag = at;
      number = number;
      wire = 1;
      value = 0;
      at = at + length (tag_of number 1);
      next = at + length (eight_field number eight);
    }

abbrev pub bytes_field_at : ℕ → ℕ → List ℕ → Field
bytes_field_at at number bytes =
    record {
      tag = at;
      number = number;
      wire = 2;
      value = 0;
      at = at + length (tag_of number 2) + length (shortest_of (length bytes));
      next = at + length (bytes_field number bytes);
    }

module _ (at number : ℕ) where
  varint_ends : (value : ℕ) → at + length (tag_of number 0) + length (shortest_of value) ≡ at + length (varint_field number value)
  unfolding varint_field
  varint_ends value = omega (arith, length-append (tag_of number 0) (shortest_of value))

  pub eight_ends : (eight : List ℕ) → length eight ≡ 8 → at + length (tag_of number 1) + 8 ≡ at + length (eight_field number eight)
  unfolding eight_field
  eight_ends eight e = omega (arith, length-append (tag_of number 1) eight)

  pub bytes_ends : (bytes : List ℕ) → at + length (tag_of number 2) + length (shortest_of (length bytes)) + length bytes ≡ at + length (bytes_field number bytes)
  unfolding bytes_field
  bytes_ends bytes =
      let sized = shortest_of (length bytes) in
      omega (arith, length-append (tag_of number 2 ++ sized) bytes, length-append (tag_of number 2) sized)

module _ (s : List ℕ) (at end : ℕ) (there : end ≤ length s) where
  -- the tag
  tag_back : (number wire : ℕ) (rest : List ℕ) → Numbers number → wire < 8 → drop at s ≡ tag_of number wire ++ rest → at + length (tag_of number wire) ≤ end
      → field_at s at end ≡ payload_at s at number wire (at + length (tag_of number wire)) end
  unfolding field_at tag_of varint_length
  tag_back number wire rest n w e room =
      let small = n.1 in let some = n.0 in
      let whole : (number * 8 + wire) / 8 ≡ number = omega arith in
      let low : (number * 8 + wire) % 8 ≡ wire = omega arith in
      simp (
        le-ltb (length s) end there,
        varint_back (number * 8 + wire) s at end rest (omega arith) e room,
        le-leb 8 (number * 8 + wire) (omega arith),
        le-leb (number * 8 + wire) 0xFFFF_FFFF (omega arith),
        whole,
        low,
      )

  -- a field that is read is the first of the message from there on
  field_first : (field : Field) → field_at s at end ≡ Ok field → fields_of s at end ≡ Ok field ∷ fields_of s field.next end
  field_first field e =
      let w = field_within s at end field e in
      let b = w.behind in let l = w.ends in let i = w.inside in
      first_field s at end (omega arith) (Ok field) (sym e) field refl

  pub varint_first : (number value : ℕ) (rest : List ℕ) → Numbers number → value < 2 ^ 64 → drop at s ≡ varint_field number value ++ rest
      → at + length (varint_field number value) ≤ end
      → fields_of s at end ≡ Ok (varint_field_at at number value) ∷ fields_of s (at + length (varint_field number value)) end
  unfolding varint_field payload_at varint_length
  varint_first number value rest n small e room =
      let ends = varint_ends at number value in
      let whole = e ∙ append_assoc (tag_of number 0) (shortest_of value) rest in
      let behind = drop_past s at (tag_of number 0) (shortest_of value ++ rest) whole in
      field_first (varint_field_at at number value)
      (tag_back number 0 (shortest_of value ++ rest) n (omega arith) whole (omega arith)
      ∙ simp (varint_back value s (at + length (tag_of number 0)) end rest small behind (omega arith), ends))

  pub eight_first : (number : ℕ) (eight rest : List ℕ) → Numbers number → length eight ≡ 8 → drop at s ≡ eight_field number eight ++ rest
      → at + length (eight_field number eight) ≤ end
      → fields_of s at end ≡ Ok (eight_field_at at number eight) ∷ fields_of s (at + length (eight_field number eight)) end
  unfolding eight_field payload_at
  eight_first number eight rest n e8 e room =
      let ends = eight_ends at number eight e8 in
      field_first (eight_field_at at number eight)
      (tag_back number 1 (eight ++ rest) n (omega arith) (e ∙ append_assoc (tag_of number 1) eight rest) (omega arith)
      ∙ simp (le-ltb (end - (at + length (tag_of number 1))) 8 (omega arith), ends))

  -- a field of bytes, these as its payload, and what follows it
  pub record Stands (number : ℕ) (bytes rest : List ℕ) : Type 0 where
    pub first : fields_of s at end ≡ Ok (bytes_field_at at number bytes) ∷ fields_of s (at + length (bytes_field number bytes)) end
    pub payload : drop (bytes_field_at at number bytes).at s ≡ bytes ++ rest
    pub ends : (bytes_field_at at number bytes).at + length bytes ≡ (bytes_field_at at number bytes).next
    pub whole : between s (bytes_field_at at number bytes).at (bytes_field_at at number bytes).next ≡ bytes

  pub bytes_stand : (number : ℕ) (bytes rest : List ℕ) → Numbers number → length bytes < 2 ^ 64 → drop at s ≡ bytes_field number bytes ++ rest
      → at + length (bytes_field number bytes) ≤ end → Stands number bytes rest
  unfolding bytes_field payload_at varint_length
  bytes_stand number bytes rest n small e room =
      let sized = shortest_of (length bytes) in
      let ends = bytes_ends at number bytes in
      let apart = e ∙ append_assoc (tag_of number 2 ++ sized) bytes rest ∙ append_assoc (tag_of number 2) sized (bytes ++ rest) in
      let behind = drop_past s at (tag_of number 2) (sized ++ (bytes ++ rest)) apart in
      let payload = drop_past s (at + length (tag_of number 2)) sized (bytes ++ rest) behind in
      let start = at + length (tag_of number 2) + length sized in
      let long : at + length (bytes_field number bytes) - start ≡ length bytes = omega arith in
      record {
        first =
            field_first (bytes_field_at at number bytes)
            (tag_back number 2 (sized ++ (bytes ++ rest)) n (omega arith) apart (omega arith)
            ∙ simp (
              varint_back (length bytes) s (at + length (tag_of number 2)) end (bytes ++ rest) small behind (omega arith),
              le-ltb (end - start) (length bytes) (omega arith),
              ends,
            ));
        payload = payload;
        ends = ends;
        whole = ap (part s start) long ∙ part_there s start bytes rest payload;
      }
