-- Reading undoes writing: of a frame that was written, wherever it stands, the same socket, name, format and limit are heard. Assumes
-- nothing.
use Rattle.std.specs.Prelude.{Option, Some, None, Result, Ok}
use Prim.Native.Nat.{ℕ, ◌+◌, ◌-◌, ◌≤◌}
use mathlib.Core.Path.{◌≡◌, refl, sym, ap, ◌∙◌}
use mathlib.Core.List.{List, [], ◌∷◌, ◌++◌, append_assoc}
use mathlib.Core.Bool.{Bool, true, false, cond, not, ◌||◌}
use lib.ListN.{length, drop, length-append, length-drop, take-append-drop}
use lib.Dec.{leb, eqb}
use native.Mathlib.Omega.{arith}
use borrow.Author.Tests.{le-ltb, lt-leb, eq-eqb, ne_eqb, eqb-true, eqb-false, leb-true}
use Rattle.bytes_be.specs.Part.{part, part_at, same, put_at}
use Rattle.bytes_be.specs.declared.Place.{Place}
use Rattle.bytes_be.proofs.Tests.{both_true}
use Rattle.bytes_be.proofs.Parts.{drop_past, part_put}
use Rattle.utf8.specs.Text.{well_formed}
use Rattle.wire.specs.declared.Field.{Field}
use Rattle.wire.specs.Fields.{place_of, Reading, fields_of}
use Rattle.wire.specs.Written.{bytes_field}
use Rattle.wire.proofs.Readings.{no_fields}
use Rattle.wire.proofs.Written.{bytes_field_at, varint_field_at, varint_first, bytes_stand, length_bytes_field}
use Rattle.double.specs.Limit.{least_limit, most_limit}
use Rattle.params.specs.Message.{good, walk, first_of}
use Rattle.params.specs.Keys.{find_in}
use Rattle.params.specs.Rules.{struct_check}
use Rattle.terms.specs.Announced.{limit_in, announced_number, announced_limit}
use Rattle.open.specs.declared.Parts.{Parts}
use Rattle.open.specs.Frame.{frame_wire, oversized, is_there, frame_text, frame_rule, frame_field, place_if, socket_if, keep, kept, frame_done, frame_check, parts_of}
use Rattle.open.specs.declared.Opening.{Opening}
use Rattle.open.specs.declared.Refusal.TheVariants.{OtherPipe}
use Rattle.open.specs.declared.Refusal.{Refusal}
use Rattle.open.specs.Offer.{Offer, offer_of}
use Rattle.open.specs.Open.{or_nowhere, opening_of, readable, refused_if, out_of_range, in_range, known_socket, offered_socket, offered_pipe, offered_format, ◌then◌, open_of, offered, heard_by}
use Rattle.open_write.specs.Frame.{good_name, good_format, is_good, socket_of, name_field, socket_field, format_field, limit_struct, parameters_field, frame_for, written}
use Rattle.open_write.specs.Round.{answer_to, ReadBack, ReadsBack, WrittenReadsBack}
use Rattle.open_write.proofs.Fields.{name_says, format_says, known-socket, length_socket, length_frame, format_none, format_some, parameters_none, parameters_some, length_struct}
use Rattle.open_write.proofs.Announced.{limit_readable, limit_announced}

abbrev holding : Option Place → Option ℕ → Option Place → Option Place → Parts
holding name socket format parameters = record { name = name; socket = socket; format = format; parameters = parameters }

no_bytes : (xs : List ℕ) → length xs ≡ 0 → [] ≡ xs
no_bytes [] e = refl
no_bytes (x ∷ xs) e = absurd (omega arith)

module _ (s : List ℕ) (to : ℕ) (there : to ≤ length s) (limit : ℕ) (low : 1000000 ≤ limit) (high : limit ≤ 50000000) where
  -- what the last field leaves, behind the others
  record ParametersBack (at : ℕ) (name : Option Place) (socket : Option ℕ) (format : Option Place) : Type 0 where
    place : Option Place
    bytes : part_at s (or_nowhere place) ≡ cond (eqb limit most_limit) [] (limit_struct limit)
    good : walk (frame_field s) keep frame_done (fields_of s at to) (holding name socket format None) ≡ good
    held : kept (fields_of s at to) (holding name socket format None) ≡ holding name socket format place
    fine : announced_number (limit_in s (or_nowhere place).at ((or_nowhere place).at + (or_nowhere place).length)) ≡ 0
    said : announced_limit (limit_in s (or_nowhere place).at ((or_nowhere place).at + (or_nowhere place).length)) ≡ limit

  no_parameters : (at : ℕ) → limit ≡ 50000000 → at + length (parameters_field limit) ≡ to
      → (name : Option Place) (socket : Option ℕ) (format : Option Place) → ParametersBack at name socket format
  unfolding walk kept limit_in find_in first_of
  no_parameters at most ends name socket format =
      let none = no_fields s at to (omega (arith, ap length (parameters_none limit most))) in
      let nothing = no_fields s 0 0 (omega arith) in
      record { place = None; bytes = simp (eq-eqb limit 50000000 most); good = simp none; held = simp none; fine = simp nothing; said = simp nothing (sym most) }

  some_parameters : (at : ℕ) (rest : List ℕ) → (limit ≡ 50000000 → ⊥) → drop at s ≡ bytes_field 4 (limit_struct limit) ++ rest → at + length (bytes_field 4 (limit_struct limit)) ≡ to
      → (name : Option Place) (socket : Option ℕ) (format : Option Place) → ParametersBack at name socket format
  unfolding walk kept keep place_if socket_if frame_field frame_rule frame_wire oversized is_there frame_text
  some_parameters at rest other stands ends name socket format =
      let field : Field = bytes_field_at at 4 (limit_struct limit) in
      let found = bytes_stand s at to there 4 (limit_struct limit) rest (omega arith, omega arith) (omega (arith, length_struct limit)) stands (omega arith) in
      let only : fields_of s at to ≡ Ok field ∷ [] = found.first ∙ ap (λ (l : List Reading). Ok field ∷ l) (no_fields s field.next to (omega arith)) in
      let inside = found.ends in
      let room : field.at + length (limit_struct limit) ≤ length s = omega arith in
      let long : field.next - field.at ≡ length (limit_struct limit) = omega arith in
      let readable : struct_check s field.at field.next ≡ good = rw inside at (limit_readable limit s field.at rest found.payload room) in
      let announced = limit_announced limit s field.at rest found.payload room low high in
      record { place = Some (place_of field); bytes = simp (ne_eqb limit 50000000 other) found.whole; good = simp (only, readable); held = simp only; fine = simp (long, announced); said = simp (long, announced) }

  parameters_back : (at : ℕ) (rest : List ℕ) → drop at s ≡ parameters_field limit ++ rest → at + length (parameters_field limit) ≡ to
      → (name : Option Place) (socket : Option ℕ) (format : Option Place) → ParametersBack at name socket format
  parameters_back at rest stands ends = go (eqb limit 50000000) refl
    where
      go : (t : Bool) → eqb limit 50000000 ≡ t → (name : Option Place) (socket : Option ℕ) (format : Option Place) → ParametersBack at name socket format
      go true e = no_parameters at (eqb-true limit 50000000 e) ends
      go false e =
          let other = eqb-false limit 50000000 e in
          let some = parameters_some limit other in
          some_parameters at rest other (rw some at stands) (rw some at ends)

  -- what the last two fields leave, behind the others
  record FormatBack (format : List ℕ) (at : ℕ) (name : Option Place) (socket : Option ℕ) : Type 0 where
    place : Option Place
    long : (or_nowhere place).length ≡ length format
    bytes : part_at s (or_nowhere place) ≡ format
    parameters : Option Place
    held_bytes : part_at s (or_nowhere parameters) ≡ cond (eqb limit most_limit) [] (limit_struct limit)
    good : walk (frame_field s) keep frame_done (fields_of s at to) (holding name socket None None) ≡ good
    held : kept (fields_of s at to) (holding name socket None None) ≡ holding name socket place parameters
    fine : announced_number (limit_in s (or_nowhere parameters).at ((or_nowhere parameters).at + (or_nowhere parameters).length)) ≡ 0
    said : announced_limit (limit_in s (or_nowhere parameters).at ((or_nowhere parameters).at + (or_nowhere parameters).length)) ≡ limit

  no_format : (format : List ℕ) (at : ℕ) (rest : List ℕ) → length format ≡ 0 → drop at s ≡ parameters_field limit ++ rest → at + length (parameters_field limit) ≡ to
      → (name : Option Place) (socket : Option ℕ) → FormatBack format at name socket
  no_format format at rest none stands ends name socket =
      let behind = parameters_back at rest stands ends name socket None in
      record {
        place = None;
        long = sym none;
        bytes = no_bytes format none;
        parameters = behind.place;
        held_bytes = behind.bytes;
        good = behind.good;
        held = behind.held;
        fine = behind.fine;
        said = behind.said;
      }

  some_format : (format : List ℕ) (at : ℕ) (rest : List ℕ) → length format ≤ 255 → well_formed format ≡ true → drop at s ≡ bytes_field 3 format ++ (parameters_field limit ++ rest)
      → at + length (bytes_field 3 format) + length (parameters_field limit) ≡ to → (name : Option Place) (socket : Option ℕ) → FormatBack format at name socket
  unfolding walk kept keep place_if socket_if frame_field frame_rule frame_wire oversized is_there frame_text
  some_format format at rest short text stands ends name socket =
      let field : Field = bytes_field_at at 3 format in
      let found = bytes_stand s at to there 3 format (parameters_field limit ++ rest) (omega arith, omega arith) (omega arith) stands (omega arith) in
      let first = found.first in
      let inside = found.ends in
      let behind = parameters_back field.next rest (drop_past s at (bytes_field 3 format) (parameters_field limit ++ rest) stands) ends name socket (Some (place_of field)) in
      record {
        place = Some (place_of field);
        long = omega arith;
        bytes = found.whole;
        parameters = behind.place;
        held_bytes = behind.bytes;
        good = simp (first, found.whole, text) behind.good;
        held = simp first behind.held;
        fine = behind.fine;
        said = behind.said;
      }

  format_back : (format : List ℕ) (at : ℕ) (rest : List ℕ) → length format ≤ 255 → well_formed format ≡ true → drop at s ≡ format_field format ++ (parameters_field limit ++ rest)
      → at + length (format_field format) + length (parameters_field limit) ≡ to → (name : Option Place) (socket : Option ℕ) → FormatBack format at name socket
  format_back format at rest short text stands ends = go (eqb (length format) 0) refl
    where
      go : (t : Bool) → eqb (length format) 0 ≡ t → (name : Option Place) (socket : Option ℕ) → FormatBack format at name socket
      go true e =
          let none = eqb-true (length format) 0 e in
          no_format format at rest none (rw (format_none format none) at stands) (omega (arith, ap length (format_none format none), ends))
      go false e =
          let some = format_some format (eqb-false (length format) 0 e) in
          some_format format at rest short text (rw some at stands) (rw some at ends)

  -- what the whole frame leaves
  record FrameBack (flow : ℕ) (name format : List ℕ) (from : ℕ) : Type 0 where
    place : Place
    long : place.length ≡ length name
    bytes : part_at s place ≡ name
    behind : FormatBack format (from + length (name_field name) + length (socket_field flow)) (Some place) (Some (socket_of flow))
    good : frame_check s from to ≡ good
    held : parts_of s from to ≡ holding (Some place) (Some (socket_of flow)) behind.place behind.parameters

  frame_back : (flow : ℕ) (name format : List ℕ) (from : ℕ) (rest : List ℕ) → length name ≤ 255 → well_formed name ≡ true
      → length format ≤ 255 → well_formed format ≡ true → drop from s ≡ frame_for flow (offer_of name format) limit ++ rest → from + length (frame_for flow (offer_of name format) limit) ≡ to → FrameBack flow name format from
  unfolding frame_check parts_of walk kept keep place_if socket_if frame_field frame_rule frame_wire oversized is_there frame_text frame_for
  frame_back flow name format from rest short text short-format format-text stands ends =
      let few = known-socket flow in
      let parameters = parameters_field limit in
      let apart =
      stands
      ∙ append_assoc (name_field name ++ socket_field flow ++ format_field format) parameters rest
      ∙ append_assoc (name_field name ++ socket_field flow) (format_field format) (parameters ++ rest)
      ∙ append_assoc (name_field name) (socket_field flow) (format_field format ++ (parameters ++ rest)) in
      let field : Field = bytes_field_at from 1 name in
      let asked : Field = varint_field_at field.next 2 (socket_of flow) in
      let whole = length_frame flow name format limit in
      let first = length_bytes_field 1 name (omega arith) in
      let second = length_socket flow in
      let found = bytes_stand s from to there 1 name (socket_field flow ++ (format_field format ++ (parameters ++ rest))) (omega arith, omega arith) (omega arith) apart (omega arith) in
      let inside = found.ends in
      let past = drop_past s from (name_field name) (socket_field flow ++ (format_field format ++ (parameters ++ rest))) apart in
      let next = varint_first s field.next to there 2 (socket_of flow) (format_field format ++ (parameters ++ rest)) (omega arith, omega arith) (omega arith) past (omega arith) in
      let behind =
      format_back format asked.next rest short-format format-text
      (drop_past s field.next (socket_field flow) (format_field format ++ (parameters ++ rest)) past) (omega arith)
      (Some (place_of field)) (Some (socket_of flow)) in
      record {
        place = place_of field;
        long = omega arith;
        bytes = found.whole;
        behind = behind;
        good = simp (found.first, next, found.whole, text, le-ltb 0xFFFF_FFFF (socket_of flow) (omega arith)) behind.good;
        held = simp (found.first, next) behind.held;
      }

-- the frame and what follows it, anywhere in a list
module _ (flow : ℕ) (name format : List ℕ) (limit : ℕ) (good : is_good (offer_of name format) ≡ true) (low : 1000000 ≤ limit) (high : limit ≤ 50000000)
    (s : List ℕ) (from : ℕ) (rest : List ℕ) (stands : drop from s ≡ frame_for flow (offer_of name format) limit ++ rest) where
  abbrev to : ℕ
  to = from + length (frame_for flow (offer_of name format) limit)

  both_good : (good_name name ≡ true) × (good_format format ≡ true)
  unfolding is_good
  both_good = both_true (good_name name) (good_format format) good

  there : to ≤ length s
  there =
      let whole = length_frame flow name format limit in
      let long = sym (length-drop from s) ∙ ap length stands ∙ length-append (frame_for flow (offer_of name format) limit) rest in
      omega arith

  frame : FrameBack s to there limit low high flow name format from
  frame =
      let named = name_says name both_good.0 in
      let formatted = format_says format both_good.1 in
      frame_back s to there limit low high flow name format from rest named.1 named.2 formatted.0 formatted.1 stands refl

  abbrev opening : Opening
  opening =
      record {
        socket = socket_of flow;
        name = frame.place;
        format = or_nowhere frame.behind.place;
        parameters = or_nowhere frame.behind.parameters;
        announced = limit_in s (or_nowhere frame.behind.parameters).at ((or_nowhere frame.behind.parameters).at + (or_nowhere frame.behind.parameters).length);
      }

  -- 18, 19 and 20 do not refuse it
  opened : open_of s from to ≡ Ok opening
  unfolding open_of readable in_range out_of_range known_socket opening_of
  opened =
      let named = name_says name both_good.0 in
      let formatted = format_says format both_good.1 in
      let few = known-socket flow in
      simp (
        frame.good,
        frame.held,
        frame.long,
        ne_eqb (length name) 0 (λ e. absurd (omega arith)),
        le-ltb 255 (length name) named.1,
        frame.behind.long,
        le-ltb 255 (length format) formatted.0,
        ne_eqb (socket_of flow) 0 (λ e. absurd (omega arith)),
        frame.behind.fine,
        lt-leb 3 (socket_of flow) few.1,
      )

  -- the second of two stages looks at this opening and at no other
  second_of : (t : Bool) (one other : Opening → Result Opening Refusal) → one opening ≡ other opening → (refused_if t OtherPipe opening then one) ≡ (refused_if t OtherPipe opening then other)
  second_of true one other e = refl
  second_of false one other e = e

  -- 21 and 22 do so only where the offer is another
  answered : (server : ℕ) (offer : Offer) → heard_by s from to server offer ≡ answer_to flow (offer_of name format) opening server offer
  unfolding offered offered_pipe offered_format answer_to
  answered server offer =
      simp (opened, frame.bytes)
      (second_of (not (same name offer.name) || not (eqb (socket_of flow) (offered_socket server))) _ _ (simp frame.behind.bytes (simp frame.behind.long)))

  back : ReadBack flow (offer_of name format) limit s from to
  back =
      record {
        opening = opening;
        opened = opened;
        socket = refl;
        named = frame.bytes;
        formatted = frame.behind.bytes;
        long = frame.behind.long;
        parametrized = frame.behind.held_bytes;
        limited = frame.behind.said;
        heard = answered;
      }

-- a frame that was written is read as it was given
pub read_back : ReadsBack
read_back flow asked limit good limited s from stands =
    let frame = frame_for flow asked limit in
    let rest = drop (length frame) (drop from s) in
    let apart = sym (take-append-drop (length frame) (drop from s)) ∙ ap (λ (l : List ℕ). l ++ rest) stands in
    let ends = both_true (leb least_limit limit) (leb limit most_limit) limited in
    back flow asked.name asked.format limit good (leb-true least_limit limit ends.0) (leb-true limit most_limit ends.1) s from rest apart

pub written_read_back : WrittenReadsBack
unfolding written
written_read_back flow asked limit good limited out at room =
    let frame = frame_for flow asked limit in
    let there : part (put_at out at frame) at (length frame) ≡ frame = part_put out at frame (leb-true (at + length frame) (length out) room) in
    rw good (read_back flow asked limit good limited (put_at out at frame) at there)
