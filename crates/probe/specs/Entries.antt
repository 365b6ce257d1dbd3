-- What the functions that are exported for the comparison answer and leave, where no definition below says it already.
use Rattle.std.specs.Prelude.{ℕ, ◌-◌, ◌≡◌, List, [], ◌∷◌, Bool, true, false, cond, length, eqb, Some, None, Result, Ok, Err, Option}
use Rattle.bytes_be.specs.Part.{put_at}
use Rattle.bundle.specs.Reading.{contents_of, contents_number, frame_number}
use Rattle.bundle.specs.Writing.{Written}
use Rattle.bundle.specs.declared.Contents.{Contents}
use Rattle.bytes_be.specs.declared.Place.{Place}
use Rattle.bundle.specs.declared.BadBundle.{BadBundle}
use Rattle.frames.specs.Frames.{handed_at}
use Rattle.control.specs.Frame.{type_of, control_of, number_of, bytes_of}
use Rattle.control.specs.declared.MessageType.{MessageType}
use Rattle.control.specs.declared.Refusal.{Refusal as Refusal-of-control}
use Rattle.control.specs.declared.Control.{Control}
use Rattle.wire.specs.declared.Kind.{Kind}
use Rattle.wire.specs.declared.Kind.TheVariants.{CutShort, BadVarint, WireType, Repeated, BadText, Other, TooDeep}
use Rattle.wire.specs.Varint.{shortest_of, varint_length}
use Rattle.wire.specs.Fields.{Reading, field_at}
use Rattle.params.specs.Message.{Check, check_number}
use Rattle.params.specs.Rules.{struct_check, alone_check}
use Rattle.terms.specs.Announced.{Announced, limit_in, announced_limit}
use Rattle.open.specs.Offer.{Offer}
use Rattle.open.specs.declared.Opening.{Opening}
use Rattle.open.specs.declared.Refusal.{Refusal}
use Rattle.open.specs.declared.Refusal.TheVariants.{Unreadable, OutOfRange, UnknownSocket, OtherPipe, OtherFormat}
use Rattle.open.specs.Open.{open_number}
use Rattle.open_write.specs.declared.BadOffer.{BadOffer}
use Rattle.open_write.specs.Frame.{given_of, given_number, written}

-- frame count, the control frame's place and length, the message's size
abbrev pub contents_slots : Result Contents BadBundle → List ℕ
contents_slots (Ok contents) = contents.count ∷ contents.control.at ∷ contents.control.length ∷ contents.size ∷ []
contents_slots (Err bad) = 0 ∷ 0 ∷ 0 ∷ 0 ∷ []

pub record ContentsAnswer (bundle : List ℕ) (number : ℕ) (slots : List ℕ) : Type 0 where
  pub numbered : number ≡ contents_number (contents_of bundle)
  pub told : slots ≡ contents_slots (contents_of bundle)

-- found (0 or 1), at, length, and the position afterwards
abbrev pub handed_slots : Result (Option Place) BadBundle → ℕ → List ℕ
handed_slots (Ok (Some place)) position = 1 ∷ place.at ∷ place.length ∷ position ∷ []
handed_slots (Ok None) position = 0 ∷ 0 ∷ 0 ∷ position ∷ []
handed_slots (Err bad) position = 0 ∷ 0 ∷ 0 ∷ position ∷ []

pub record HandOutAnswer (bundle : List ℕ) (position number : ℕ) (slots : List ℕ) : Type 0 where
  pub numbered : number ≡ frame_number (handed_at bundle position).frame
  pub told : slots ≡ handed_slots (handed_at bundle position).frame (handed_at bundle position).position

-- type, flags and type-data
abbrev pub control_slots : Result Control Refusal-of-control → List ℕ
control_slots (Ok control) = type_of control.message ∷ control.flags ∷ control.type_data ∷ []
control_slots (Err why) = 0 ∷ 0 ∷ 0 ∷ []

pub record ControlAnswer (frame : List ℕ) (number : ℕ) (slots : List ℕ) : Type 0 where
  pub numbered : number ≡ number_of (control_of frame)
  pub told : slots ≡ control_slots (control_of frame)

-- one body, or none
abbrev pub bodies : Bool → List ℕ → List (List ℕ)
bodies true body = body ∷ []
bodies false body = []

-- a message of a known type is written, and nothing of another
abbrev pub Wrote : Result MessageType Refusal-of-control → ℕ → ℕ → List (List ℕ) → List ℕ → ℕ → List ℕ → Type 0
Wrote (Ok message) flags type-data data-frames before count after =
    Written (bytes_of message flags type-data ∷ data-frames) before count after
Wrote (Err why) flags type-data data-frames before count after = (count ≡ 0) × (after ≡ before)

-- the kinds of faults in their order
abbrev pub kind_number : Kind → ℕ
kind_number CutShort = 1
kind_number BadVarint = 2
kind_number WireType = 3
kind_number Repeated = 4
kind_number BadText = 5
kind_number Other = 6
kind_number TooDeep = 7

abbrev pub reading_number : Reading → ℕ
reading_number (Ok field) = 0
reading_number (Err why) = kind_number why.kind

-- number, wire type, what its varint says or how many bytes it holds, the payload's place, the place behind it
abbrev pub reading_slots : Reading → List ℕ
reading_slots (Ok field) =
    field.number ∷ field.wire ∷ cond (eqb field.wire 2) (field.next - field.at) field.value ∷ field.at ∷ field.next ∷ []
reading_slots (Err why) = 0 ∷ 0 ∷ 0 ∷ 0 ∷ 0 ∷ []

pub record FieldAnswer (bytes : List ℕ) (at end number : ℕ) (slots : List ℕ) : Type 0 where
  pub numbered : number ≡ reading_number (field_at bytes at end)
  pub told : slots ≡ reading_slots (field_at bytes at end)

pub record Stored (before : List ℕ) (at number count : ℕ) (after : List ℕ) : Type 0 where
  pub counted : count ≡ varint_length number
  pub left : after ≡ put_at before at (shortest_of number)

abbrev pub check_of : Bool → List ℕ → Check
check_of true bytes = alone_check bytes
check_of false bytes = struct_check bytes 0 (length bytes)

-- why and where
abbrev pub check_slots : Check → List ℕ
check_slots (Ok passed) = 0 ∷ 0 ∷ []
check_slots (Err why) = kind_number why.kind ∷ why.at ∷ []

pub record CheckAnswer (value : Bool) (bytes : List ℕ) (number : ℕ) (slots : List ℕ) : Type 0 where
  pub numbered : number ≡ check_number (check_of value bytes)
  pub told : slots ≡ check_slots (check_of value bytes)

-- none (0), a limit (1) or a bad one (2), and the limit
abbrev pub announced_slots : Announced → List ℕ
announced_slots (Ok None) = 0 ∷ 0 ∷ []
announced_slots (Ok (Some limit)) = 1 ∷ limit ∷ []
announced_slots (Err why) = 2 ∷ 0 ∷ []

abbrev pub if_readable : Check → List ℕ → List ℕ
if_readable (Ok passed) slots = slots
if_readable (Err why) slots = 0 ∷ 0 ∷ []

pub record LimitAnswer (parameters : List ℕ) (number : ℕ) (slots : List ℕ) : Type 0 where
  pub numbered : number ≡ check_number (check_of false parameters)
  pub told : slots ≡ if_readable (check_of false parameters) (announced_slots (limit_in parameters 0 (length parameters)))

-- 1 producer, 2 consumer
abbrev pub flow_of : Bool → ℕ
flow_of producer = cond producer 1 2

-- socket, the places of name, format and parameters, the limit
abbrev pub opening_slots : Opening → List ℕ
opening_slots opening =
    opening.socket
    ∷ opening.name.at ∷ opening.name.length
    ∷ opening.format.at ∷ opening.format.length
    ∷ opening.parameters.at ∷ opening.parameters.length
    ∷ announced_limit opening.announced
    ∷ 0 ∷ 0 ∷ []

-- behind eight zeros the kind of the fault, and where it is
abbrev pub no_opening : ℕ → ℕ → List ℕ
no_opening kind at = 0 ∷ 0 ∷ 0 ∷ 0 ∷ 0 ∷ 0 ∷ 0 ∷ 0 ∷ kind ∷ at ∷ []

abbrev pub refusal_slots : Refusal → List ℕ
refusal_slots (Unreadable why) = no_opening (kind_number why.kind) why.at
refusal_slots OutOfRange = no_opening 0 0
refusal_slots UnknownSocket = no_opening 0 0
refusal_slots OtherPipe = no_opening 0 0
refusal_slots OtherFormat = no_opening 0 0

abbrev pub open_slots : Result Opening Refusal → List ℕ
open_slots (Ok opening) = opening_slots opening
open_slots (Err refusal) = refusal_slots refusal

pub record OpenAnswer (said : Result Opening Refusal) (number : ℕ) (slots : List ℕ) : Type 0 where
  pub numbered : number ≡ open_number said
  pub told : slots ≡ open_slots said

-- how long the frame is, also where it has no room
abbrev pub given_length : Result ℕ BadOffer → ℕ
given_length (Ok frame-length) = frame-length
given_length (Err why) = 0

pub record OpenFrameAnswer (flow : ℕ) (asked : Offer) (limit at : ℕ) (before : List ℕ) (number frame-length : ℕ)
    (after : List ℕ) : Type 0 where
  pub numbered : number ≡ given_number (given_of flow asked limit)
  pub told : frame-length ≡ given_length (given_of flow asked limit)
  pub left : after ≡ written flow asked limit at before
