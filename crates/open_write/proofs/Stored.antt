-- What one store behind another leaves: a field, and the whole frame. Assumes nothing.
use Rattle.std.specs.Prelude.{Ok}
use Prim.Native.Nat.{ℕ, ◌+◌, ◌*◌, ◌≤◌}
use mathlib.Core.Path.{◌≡◌, refl, sym, ap, ◌∙◌}
use mathlib.Core.List.{List, ◌++◌}
use mathlib.Core.Bool.{Bool, true, false, cond}
use lib.ListN.{length, length-append}
use native.Mathlib.Omega.{arith}
use borrow.Author.Tests.{leb-true}
use Rattle.bytes_be.proofs.Tests.{clash}
use Rattle.bytes_be.specs.Part.{holds, put_at}
use Rattle.bytes_be.proofs.Parts.{put_then}
use Rattle.wire.specs.Varint.{shortest_of, varint_length}
use Rattle.wire.specs.Written.{tag_of, bytes_field}
use Rattle.wire.proofs.Written.{length_tag, length_bytes_field}
use Rattle.double.specs.Double.{bytes_of}
use Rattle.double.proofs.Order.{length_bytes_of}
use Rattle.terms.specs.Announced.{limit_key}
use Rattle.open.specs.Offer.{offer_of}
use Rattle.open_write.specs.Frame.{refused, name_field, socket_field, format_field, parameters_field, frame_for, is_good, given_of, written}
use Rattle.open_write.proofs.Fields.{length_socket, struct_head, value_head, parameters_some, parameters_bytes, length_frame}

module _ (out : List ℕ) (at : ℕ) where
  pub stored_bytes : (number : ℕ) (bytes : List ℕ) → number ≤ 15 → at + length (bytes_field number bytes) ≤ length out
      → put_at (put_at (put_at out at (shortest_of (number * 8 + 2))) (at + 1) (shortest_of (length bytes))) (at + 1 + varint_length (length bytes)) bytes
      ≡ put_at out at (bytes_field number bytes)
  unfolding bytes_field tag_of varint_length
  stored_bytes number bytes h room =
      let tag = shortest_of (number * 8 + 2) in
      let sized = shortest_of (length bytes) in
      let first = at + 1 + length sized in
      let one = length_tag number 2 h (omega arith) in
      let whole = length_bytes_field number bytes h in
      let both = length-append tag sized in
      ap (λ (l : List ℕ). put_at l first bytes) (put_then out at tag sized (at + 1) (omega arith) (omega arith))
      ∙ put_then out at (tag ++ sized) bytes first (omega arith) (omega arith)

  pub stored_parameters : (limit : ℕ) → (limit ≡ 50000000 → ⊥) → at + 34 ≤ length out
      → put_at (put_at (put_at (put_at out at struct_head) (at + 6) limit_key) (at + 23) value_head) (at + 26) (bytes_of limit)
      ≡ put_at out at (parameters_field limit)
  stored_parameters limit h room =
      let eight = length_bytes_of limit in
      ap (λ (l : List ℕ). put_at (put_at l (at + 23) value_head) (at + 26) (bytes_of limit)) (put_then out at struct_head limit_key (at + 6) refl (omega arith))
      ∙ ap (λ (l : List ℕ). put_at l (at + 26) (bytes_of limit)) (put_then out at (struct_head ++ limit_key) value_head (at + 23) refl (omega arith))
      ∙ put_then out at (struct_head ++ limit_key ++ value_head) (bytes_of limit) (at + 26) refl (omega arith)
      ∙ ap (put_at out at) (sym (parameters_some limit h ∙ parameters_bytes limit))

  pub stored_frame : (flow : ℕ) (name format : List ℕ) (limit : ℕ) → at + length (frame_for flow (offer_of name format) limit) ≤ length out
      → (socket parameters : ℕ) → socket ≡ at + length (name_field name) → parameters ≡ socket + 2 + length (format_field format)
      → put_at (put_at (put_at (put_at out at (name_field name)) socket (socket_field flow)) (socket + 2) (format_field format)) parameters (parameters_field limit)
      ≡ put_at out at (frame_for flow (offer_of name format) limit)
  unfolding frame_for
  stored_frame flow name format limit room socket parameters p q =
      let named = name_field name in
      let asked = socket_field flow in
      let two = length_socket flow in
      let whole = length_frame flow name format limit in
      let first = length_bytes_field 1 name (omega arith) in
      let to-socket = length-append named asked in
      let to-format = length-append (named ++ asked) (format_field format) in
      ap (λ (l : List ℕ). put_at (put_at l (socket + 2) (format_field format)) parameters (parameters_field limit))
      (put_then out at named asked socket (omega arith) (omega arith))
      ∙ ap (λ (l : List ℕ). put_at l parameters (parameters_field limit)) (put_then out at (named ++ asked) (format_field format) (socket + 2) (omega arith) (omega arith))
      ∙ put_then out at (named ++ asked ++ format_field format) (parameters_field limit) parameters (omega arith) (omega arith)

-- ---- what `write` leaves

module _ (flow : ℕ) (name format : List ℕ) (limit at : ℕ) (out : List ℕ) where
  -- the room for a frame is room for each of its fields
  pub record Rooms : Type 0 where
    pub named : at + length (name_field name) ≤ length out
    pub asked : at + length (name_field name) + 2 ≤ length out
    pub formatted : at + length (name_field name) + 2 + length (format_field format) ≤ length out
    pub all : at + length (name_field name) + 2 + length (format_field format) + length (parameters_field limit) ≤ length out

  pub rooms : holds (length out) at (length (frame_for flow (offer_of name format) limit)) ≡ true → Rooms
  rooms fits =
      let room = leb-true (at + length (frame_for flow (offer_of name format) limit)) (length out) fits in
      let whole = length_frame flow name format limit in
      let first = length_bytes_field 1 name (omega arith) in
      record { named = omega arith; asked = omega arith; formatted = omega arith; all = omega arith }

  -- a frame that is written, and one that is not
  pub bad_given : ((size : ℕ) → given_of flow (offer_of name format) limit ≡ Ok size → ⊥) → out ≡ written flow (offer_of name format) limit at out
  unfolding given_of written
  bad_given e = go (is_good (offer_of name format)) e
    where
      go : (t : Bool) → ((size : ℕ) → cond t (Ok (length (frame_for flow (offer_of name format) limit))) refused ≡ Ok size → ⊥)
          → out ≡ cond t (put_at out at (frame_for flow (offer_of name format) limit)) out
      go true e = absurd (e (length (frame_for flow (offer_of name format) limit)) refl)
      go false e = refl

  module _ (size : ℕ) (good : given_of flow (offer_of name format) limit ≡ Ok size) where
    good_given : (is_good (offer_of name format) ≡ true) × (size ≡ length (frame_for flow (offer_of name format) limit))
    unfolding given_of
    good_given = go (is_good (offer_of name format)) good
      where
        go : (t : Bool) → cond t (Ok (length (frame_for flow (offer_of name format) limit))) refused ≡ Ok size → (t ≡ true) × (size ≡ length (frame_for flow (offer_of name format) limit))
        go true e = (refl, cc)
        go false e = clash cc

    -- the test for room is that of the frame
    pub its_room : (r t : Bool) → r ≡ holds (length out) at size → r ≡ t → holds (length out) at (length (frame_for flow (offer_of name format) limit)) ≡ t
    its_room r t is e = ap (holds (length out) at) (sym good_given.1) ∙ sym is ∙ e

    pub wrote : put_at out at (frame_for flow (offer_of name format) limit) ≡ written flow (offer_of name format) limit at out
    unfolding written
    wrote = simp good_given.0

    pub no_room : holds (length out) at (length (frame_for flow (offer_of name format) limit)) ≡ false → out ≡ written flow (offer_of name format) limit at out
    unfolding written put_at
    no_room lacks = simp (good_given.0, lacks)
