-- "A term is looked up by key in the client's parameters (a lent Struct, empty if absent), and failing that in the server's lent default
-- Struct; the answer is that part of whichever slice holds the Value's bytes, without tag and length. A refused lookup answers the empty
-- part at the start of the client's slice."
use Rattle.std.specs.Prelude.{ℕ, suc, ◌+◌, ◌≡◌, List, [], ◌∷◌, cond, length, eqb, Option, Some, None, Result, Ok, Err}
use Rattle.std.specs.Borrow.{Bor}
use Rattle.bytes_be.specs.Part.{part_at}
use Rattle.bytes_be.specs.declared.Place.{Place}
use Rattle.wire.specs.Fields.{fault_number}
use Rattle.params.specs.Message.{Check, nowhere}
use Rattle.params.specs.Keys.{find_in}
use Rattle.params.specs.Rules.{struct_check}
use Rattle.terms.specs.declared.Term.{Term}
use Rattle.terms.specs.declared.Refusal.{Refusal}
use Rattle.terms.specs.declared.Refusal.TheVariants.{Unreadable, Absent}

-- a term, or why there is none to be answered
abbrev pub Answer : Type 0
Answer = Result Term Refusal

abbrev pub if_readable : ℕ → Check → Answer → Answer
if_readable layer (Ok passed) answer = answer
if_readable layer (Err why) answer = Err (Unreadable layer why)

-- "Lookup tests 18, 36, 37": every layer is read whole, in order, before one is looked at
unfoldable pub read_layers : ℕ → List (List ℕ) → Answer → Answer
read_layers layer [] answer = answer
read_layers layer (bytes ∷ beneath) answer =
    if_readable layer (struct_check bytes 0 (length bytes)) (read_layers (suc layer) beneath answer)

abbrev pub term_in : ℕ → Place → Answer
term_in layer place = Ok (record { layer = layer; place = place })

abbrev pub in_layer : ℕ → Option Place → Answer → Answer
in_layer layer (Some place) beneath = term_in layer place
in_layer layer None beneath = beneath

-- "and failing that": the first layer that has the key
unfoldable pub find_layers : ℕ → List (List ℕ) → List ℕ → Answer
find_layers layer [] key = Err Absent
find_layers layer (bytes ∷ beneath) key =
    in_layer layer (find_in bytes 0 (length bytes) key) (find_layers (suc layer) beneath key)

-- the layers from the uppermost down: the client's parameters, then the default Struct
unfoldable pub look_up : List (List ℕ) → List ℕ → Answer
look_up layers key = read_layers 0 layers (find_layers 0 layers key)

-- 18, "36 default Struct unreadable", "37 no such term"
abbrev pub refusal_number : Refusal → ℕ
refusal_number (Unreadable layer why) = cond (eqb layer 0) (fault_number why) 36
refusal_number Absent = 37

abbrev pub term_number : Answer → ℕ
term_number (Ok term) = 0
term_number (Err refusal) = refusal_number refusal

-- r is the part of the memory s at a place: the same block, the place's offset, and so its bytes
pub record IsPart (s r : Bor (List ℕ)) (place : Place) : Type 0 where
  pub block : r.ref_ptr.0 ≡ s.ref_ptr.0
  pub start : r.ref_ptr.1 ≡ place.at + s.ref_ptr.1
  pub bytes : r.now ≡ part_at s.now place

abbrev pub PartOf : Bor (List ℕ) → Bor (List ℕ) → Bor (List ℕ) → Answer → Type 0
PartOf client defaults r (Ok term) = IsPart (cond (eqb term.layer 0) client defaults) r term.place
PartOf client defaults r (Err refusal) = IsPart client r nowhere
