-- What the entries without a state block answer and leave: one record for each, with an equation for the number and for every output.
use Rattle.std.specs.Prelude.{ℕ, ◌+◌, ◌≡◌, List, [], ◌∷◌, cond, Result, Ok, Err, Option, Some, None}
use Rattle.bundle.specs.Reading.{frame_of, frame_number}
use Rattle.wire.specs.declared.Fault.{Fault}
use Rattle.bytes_be.specs.declared.Place.{Place}
use Rattle.bundle.specs.declared.BadBundle.{BadBundle}
use Rattle.terms.specs.Value.{value_of, value_number}
use Rattle.terms.specs.declared.Value.{Value}
use Rattle.terms.specs.declared.Value.TheVariants.{Null, Number, Text, Boolean, Struct, List as Value-as-List}
use Rattle.terms.specs.Lookup.{Answer, look_up, term_number}

-- the number of the interface, which the header and the name of a function have too
abbrev pub interface : ℕ
interface = 3

-- `fbdp_interface_3`
pub record InterfaceAnswer (number : ℕ) : Type 0 where
  pub numbered : number ≡ interface

-- found (0 or 1), at, length
abbrev pub frame_slots : Result (Option Place) BadBundle → List ℕ
frame_slots (Ok (Some place)) = 1 ∷ place.at ∷ place.length ∷ []
frame_slots (Ok None) = 0 ∷ 0 ∷ 0 ∷ []
frame_slots (Err bad) = 0 ∷ 0 ∷ 0 ∷ []

-- `fbdp_frame`: "For a bad bundle it answers 10 and hands out none; behind the last frame it answers that there is none."
pub record FrameAnswer (bundle : List ℕ) (index number : ℕ) (slots : List ℕ) : Type 0 where
  pub numbered : number ≡ frame_number (frame_of bundle index)
  pub told : slots ≡ frame_slots (frame_of bundle index)

-- kind (null 1, number 2, text 3, bool 4, Struct 5, list 6), and what it holds: a number's bits, a text's place and length, 0 or 1
abbrev pub value_slots : Result Value Fault → List ℕ
value_slots (Ok Null) = 1 ∷ 0 ∷ 0 ∷ []
value_slots (Ok (Number double bits)) = 2 ∷ bits ∷ 0 ∷ []
value_slots (Ok (Text place)) = 3 ∷ place.at ∷ place.length ∷ []
value_slots (Ok (Boolean truth)) = 4 ∷ cond truth 1 0 ∷ 0 ∷ []
value_slots (Ok Struct) = 5 ∷ 0 ∷ 0 ∷ []
value_slots (Ok Value-as-List) = 6 ∷ 0 ∷ 0 ∷ []
value_slots (Err why) = 0 ∷ 0 ∷ 0 ∷ []

-- `fbdp_value`: "A scalar Value is answered as null, number, boolean or text place. One that holds a Struct or list is answered as such,
-- an unreadable one as 18".
pub record ValueAnswer (bytes : List ℕ) (number : ℕ) (slots : List ℕ) : Type 0 where
  pub numbered : number ≡ value_number (value_of bytes)
  pub told : slots ≡ value_slots (value_of bytes)

-- slice (1 the client's parameters, 2 the default Struct), at, length; "the empty part at the start of the client's slice"
abbrev pub term_slots : Answer → List ℕ
term_slots (Ok term) = (term.layer + 1) ∷ term.place.at ∷ term.place.length ∷ []
term_slots (Err refusal) = 1 ∷ 0 ∷ 0 ∷ []

-- `fbdp_lookup`: "A term is looked up by key in the client's parameters .., and failing that in the server's lent default Struct".
pub record LookupAnswer (client defaults key : List ℕ) (number : ℕ) (slots : List ℕ) : Type 0 where
  pub numbered : number ≡ term_number (look_up (client ∷ defaults ∷ []) key)
  pub told : slots ≡ term_slots (look_up (client ∷ defaults ∷ []) key)
