-- What a good name and a good format are, and the fields of a frame that is written, byte by byte, with their lengths. Assumes nothing.
use Prim.Native.Nat.{ℕ, ◌+◌, ◌≤◌, ◌<◌}
use mathlib.Core.Path.{◌≡◌, refl, sym, ap, ap₂, ◌∙◌}
use mathlib.Core.List.{List, [], ◌∷◌, ◌++◌}
use mathlib.Core.Bool.{Bool, true, false, cond, ◌&&◌}
use lib.ListN.{length, length-append}
use lib.Dec.{leb, eqb}
use native.Mathlib.Omega.{arith}
use borrow.Author.Tests.{eq-eqb, ne_eqb, eqb-true, eqb-false, leb-true}
use Rattle.bytes_be.proofs.Tests.{both_true}
use Rattle.utf8.specs.Text.{well_formed}
use Rattle.wire.specs.Varint.{shortest_within, shortest_of, varint_length}
use Rattle.wire.specs.Written.{tag_of, varint_field, eight_field, bytes_field}
use Rattle.wire.proofs.Shortest.{varint_at_most}
use Rattle.wire.proofs.Written.{length_bytes_field}
use Rattle.double.specs.Double.{bytes_of}
use Rattle.double.proofs.Order.{length_bytes_of}
use Rattle.terms.specs.Announced.{limit_key}
use Rattle.open.specs.Offer.{Offer, offer_of}
use Rattle.open_write.specs.Frame.{good_name, good_format, socket_of, name_field, socket_field, format_field, limit_struct, parameters_field, frame_for, is_good}

-- what a good name and a good format are
pub name_says : (name : List ℕ) → good_name name ≡ true → (1 ≤ length name) × (length name ≤ 255) × (well_formed name ≡ true)
unfolding good_name
name_says name e =
    let both = both_true (leb 1 (length name) && leb (length name) 255) (well_formed name) e in
    let ends = both_true (leb 1 (length name)) (leb (length name) 255) both.0 in
    (leb-true 1 (length name) ends.0, leb-true (length name) 255 ends.1, both.1)

pub format_says : (format : List ℕ) → good_format format ≡ true → (length format ≤ 255) × (well_formed format ≡ true)
unfolding good_format
format_says format e =
    let both = both_true (leb (length format) 255) (well_formed format) e in
    (leb-true (length format) 255 both.0, both.1)

pub socket_bytes : (flow : ℕ) → 0x10 ∷ socket_of flow ∷ [] ≡ socket_field flow
unfolding varint_field tag_of shortest_of shortest_within
socket_bytes flow = go (eqb flow 1)
  where
    go : (t : Bool) → 0x10 ∷ cond t 1 2 ∷ [] ≡ varint_field 2 (cond t 1 2)
    go true = refl
    go false = refl

-- a client's socket is 1 or 2
pub known-socket : (flow : ℕ) → (0 < socket_of flow) × (socket_of flow < 3)
known-socket flow = go (eqb flow 1)
  where
    go : (t : Bool) → (0 < cond t 1 2) × (cond t 1 2 < 3)
    go true = (omega arith, omega arith)
    go false = (omega arith, omega arith)

pub length_socket : (flow : ℕ) → length (socket_field flow) ≡ 2
length_socket flow = ap length (sym (socket_bytes flow))

module _ (format : List ℕ) where
  pub format_none : length format ≡ 0 → format_field format ≡ []
  unfolding format_field
  format_none h = simp (eq-eqb (length format) 0 h)

  pub format_some : (length format ≡ 0 → ⊥) → format_field format ≡ bytes_field 3 format
  unfolding format_field
  format_some h = simp (ne_eqb (length format) 0 h)

  pub format_short : length format ≤ 255 → length (format_field format) ≤ 266
  unfolding format_field
  format_short h = go (eqb (length format) 0)
    where
      go : (t : Bool) → length (cond t [] (bytes_field 3 format)) ≤ 266
      go true = omega arith
      go false = omega (arith, length_bytes_field 3 format (omega arith), varint_at_most (length format))

-- the tags and lengths of the Struct, its entry, its key and its Value
abbrev pub struct_head : List ℕ
struct_head = 0x22 ∷ 32 ∷ 0x0A ∷ 30 ∷ 0x0A ∷ 17 ∷ []

abbrev pub value_head : List ℕ
value_head = 0x12 ∷ 9 ∷ 0x11 ∷ []

module _ (limit : ℕ) where
  pub parameters_none : limit ≡ 50000000 → parameters_field limit ≡ []
  unfolding parameters_field
  parameters_none h = simp (eq-eqb limit 50000000 h)

  pub parameters_some : (limit ≡ 50000000 → ⊥) → parameters_field limit ≡ bytes_field 4 (limit_struct limit)
  unfolding parameters_field
  parameters_some h = simp (ne_eqb limit 50000000 h)

  pub parameters_bytes : bytes_field 4 (limit_struct limit) ≡ struct_head ++ limit_key ++ value_head ++ bytes_of limit
  unfolding bytes_field eight_field tag_of shortest_of shortest_within
  parameters_bytes = simp (length_bytes_of limit)

  pub length_struct : length (limit_struct limit) ≡ 32
  unfolding bytes_field eight_field tag_of shortest_of shortest_within
  length_struct = simp (length_bytes_of limit)

  pub length_parameters : (limit ≡ 50000000 → ⊥) → length (parameters_field limit) ≡ 34
  length_parameters h =
      ap length (parameters_some h ∙ parameters_bytes) ∙ length-append (struct_head ++ limit_key ++ value_head) (bytes_of limit) ∙ ap (λ (k : ℕ). 26 + k) (length_bytes_of limit)

  pub parameters_short : length (parameters_field limit) ≤ 34
  parameters_short = go (eqb limit 50000000) refl
    where
      go : (t : Bool) → eqb limit 50000000 ≡ t → length (parameters_field limit) ≤ 34
      go true e = rw (parameters_none (eqb-true limit 50000000 e)) (omega arith)
      go false e = rw (length_parameters (eqb-false limit 50000000 e)) (omega arith)

pub length_frame : (flow : ℕ) (name format : List ℕ) (limit : ℕ)
    → length (frame_for flow (offer_of name format) limit) ≡ 1 + varint_length (length name) + length name + 2 + length (format_field format) + length (parameters_field limit)
unfolding frame_for
length_frame flow name format limit =
    length-append (name_field name ++ socket_field flow ++ format_field format) (parameters_field limit)
    ∙ ap (λ (k : ℕ). k + length (parameters_field limit))
    (length-append (name_field name ++ socket_field flow) (format_field format)
    ∙ ap (λ (k : ℕ). k + length (format_field format))
    (length-append (name_field name) (socket_field flow) ∙ ap₂ (λ (j k : ℕ). j + k) (length_bytes_field 1 name (omega arith)) (length_socket flow)))

-- the frame of a good name and a good format is short
pub frame_short : (flow : ℕ) (asked : Offer) (limit : ℕ) → is_good asked ≡ true → length (frame_for flow asked limit) ≤ 568
unfolding is_good frame_for
frame_short flow asked limit good =
    let both = both_true (good_name asked.name) (good_format asked.format) good in
    let named = name_says asked.name both.0 in
    let formatted = format_says asked.format both.1 in
    let first = length-append (name_field asked.name) (socket_field flow) in
    let second = length-append (name_field asked.name ++ socket_field flow) (format_field asked.format) in
    let whole = length-append (name_field asked.name ++ socket_field flow ++ format_field asked.format) (parameters_field limit) in
    omega (arith, first, second, whole, length_bytes_field 1 asked.name (omega arith), varint_at_most (length asked.name), length_socket flow, format_short asked.format formatted.0, parameters_short limit)
