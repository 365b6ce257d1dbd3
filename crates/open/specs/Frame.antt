-- "Fields: 1 data_pipe (string), 2 pipe_socket (uint32), 3 data_format (string), 4 parameters (Struct). Each at most once, with its own
-- wire type. Fields 5 and up are skipped for wire types 0, 1, 2, 5." Behind tag and payload the tests at a field run: an oversized socket,
-- wire type, repetition, UTF-8; only then inside.
use Rattle.std.specs.Prelude.{ℕ, List, [], ◌∷◌, Bool, true, false, cond, not, ◌&&◌, ◌||◌, ltb, eqb, Option, Some, None, is_some, Ok, Err}
use Rattle.bytes_be.specs.Part.{between}
use Rattle.bytes_be.specs.declared.Place.{Place}
use Rattle.utf8.specs.Text.{well_formed}
use Rattle.wire.specs.declared.Kind.TheVariants.{BadVarint, WireType, Repeated, BadText}
use Rattle.wire.specs.declared.Field.{Field}
use Rattle.wire.specs.Fields.{place_of, Reading, fields_of}
use Rattle.params.specs.Message.{Check, good, refuse_if, and_then, walk}
use Rattle.params.specs.Rules.{struct_check}
use Rattle.open.specs.declared.Parts.{Parts}

-- "1 data_pipe .. 2 pipe_socket .. 3 data_format .. 4 parameters", or a field that is skipped
abbrev pub by_field : {A : Type 0} → ℕ → A → A → A → A → A → A
by_field number name socket format parameters skipped =
    cond (eqb number 1) name
    (cond (eqb number 2) socket
    (cond (eqb number 3) format
    (cond (eqb number 4) parameters
    skipped)))

-- "a socket above 2^32-1"
unfoldable pub oversized : ℕ → ℕ → Bool
oversized number value = eqb number 2 && ltb 0xFFFF_FFFF value

-- "with its own wire type": a length and so many bytes, or a varint; fields 5 and up have none of their own, and `payload_at` has refused
-- what is none of 0, 1, 2 and 5
unfoldable pub frame_wire : ℕ → ℕ → Bool
frame_wire number wire = by_field number (eqb wire 2) (eqb wire 0) (eqb wire 2) (eqb wire 2) true

-- "Each at most once": whether there was one before
unfoldable pub is_there : Parts → ℕ → Bool
is_there parts number =
    by_field number (is_some parts.name) (is_some parts.socket) (is_some parts.format) (is_some parts.parameters) false

-- "bad UTF-8 in any string"
unfoldable pub frame_text : List ℕ → ℕ → ℕ → ℕ → Bool
frame_text s number at next = cond (eqb number 1 || eqb number 3) (well_formed (between s at next)) true

-- a field, behind the parts that were there before it
unfoldable pub frame_rule : List ℕ → Parts → Field → Check
frame_rule s parts field =
    refuse_if (oversized field.number field.value) BadVarint field.tag
    (refuse_if (not (frame_wire field.number field.wire)) WireType field.tag
    (refuse_if (is_there parts field.number) Repeated field.tag
    (refuse_if (not (frame_text s field.number field.at field.next)) BadText field.tag
    good)))

-- "4 parameters (Struct)"
unfoldable pub frame_field : List ℕ → Parts → Field → Check
frame_field s parts field =
    and_then (frame_rule s parts field) (cond (eqb field.number 4) (struct_check s field.at field.next) good)

-- the parts before the first field
abbrev pub nothing : Parts
nothing = record { name = None; socket = None; format = None; parameters = None }

-- where the payload of a field stands, if it has this number, and what its varint says, if it is the socket
unfoldable pub place_if : ℕ → Field → Option Place → Option Place
place_if number field otherwise = cond (eqb field.number number) (Some (place_of field)) otherwise

unfoldable pub socket_if : Field → Option ℕ → Option ℕ
socket_if field otherwise = cond (eqb field.number 2) (Some field.value) otherwise

-- the parts after one field more, of two the later
unfoldable pub keep : Parts → Field → Parts
keep parts field =
    record {
      name = place_if 1 field parts.name;
      socket = socket_if field parts.socket;
      format = place_if 3 field parts.format;
      parameters = place_if 4 field parts.parameters;
    }

-- the parts after the last field
unfoldable pub kept : List Reading → Parts → Parts
kept [] parts = parts
kept (Err why ∷ rest) parts = parts
kept (Ok field ∷ rest) parts = kept rest (keep parts field)

-- nothing that a frame lacks makes it unreadable
abbrev pub frame_done : Parts → Check
frame_done parts = good

-- the frame from `from` to `to`: whether it is readable, and its parts
unfoldable pub frame_check : List ℕ → ℕ → ℕ → Check
frame_check s from to = walk (frame_field s) keep frame_done (fields_of s from to) nothing

unfoldable pub parts_of : List ℕ → ℕ → ℕ → Parts
parts_of s from to = kept (fields_of s from to) nothing
