-- "Send": the five calls, and the message that each makes. "DATA takes type-data, one body (may be empty) and an ask for confirmation; NOOP
-- takes type-data and the ask. .. OPEN takes the pipe name (1..255 bytes of UTF-8) and a format (0..255 bytes of UTF-8)."; and the choice of C-12.
use Rattle.std.specs.Prelude.{ℕ, ◌+◌, List, [], ◌∷◌, Bool, true, false, cond, not, ◌&&◌, ◌||◌, length, ltb, leb, eqb, Option, Some, None}
use Rattle.std.specs.Borrow.{Bor}
use Rattle.bundle.specs.Writing.{bundle_of}
use Rattle.control.specs.declared.MessageType.{MessageType}
use Rattle.control.specs.declared.MessageType.TheVariants.{Open, Ready, Noop, Data, Close}
use Rattle.control.specs.Frame.{ack_request, bytes_of}
use Rattle.open.specs.Offer.{Offer}
use Rattle.open_write.specs.Frame.{is_good, frame_for}
use Rattle.endpoint.specs.declared.Endpoint.{Endpoint}
use Rattle.endpoint.specs.Record.{server, opening}
use Rattle.sending.specs.declared.Report.{Report}

-- C-12: "DATA without ACK-REPLY may have no data frame or one, and a missing body is heard as such, apart from an empty one. Sending gets the
-- same choice."
pub data Body : Type 0 where
  Missing : Body
  Given : List ℕ → Body

abbrev pub is_missing : Body → Bool
is_missing Missing = true
is_missing (Given bytes) = false

-- what is lent for a body, if anything is
abbrev pub body_in : Option (Bor (List ℕ)) → Body
body_in None = Missing
body_in (Some body) = Given body.now

-- the data frames that it makes
abbrev pub as_frames : Body → List (List ℕ)
as_frames Missing = []
as_frames (Given bytes) = bytes ∷ []

-- how many bytes they have
abbrev pub body_size : Body → ℕ
body_size Missing = 0
body_size (Given bytes) = length bytes

-- "DATA takes type-data, one body (may be empty) and an ask for confirmation", and by C-12 the body may be missing
pub record Datum : Type 0 where
  pub type-data : ℕ
  pub ask : Bool
  pub body : Body

-- of what is told beside the body, and of a body
abbrev pub datum_with : Report → Body → Datum
datum_with report body = record { type-data = report.type_data; ask = report.ask; body = body }

pub data Call : Type 0 where
  OPEN : Offer → Call
  -- the count
  READY : ℕ → Call
  DATA : Datum → Call
  -- type-data and the ask
  NOOP : ℕ → Bool → Call
  -- the code
  CLOSE : ℕ → Call

-- 33: "own DATA message above limit"; its size is 8 more than its body's, and 8 where that is missing
unfoldable pub above_limit : Endpoint → Datum → Bool
above_limit e datum = ltb e.limit (8 + body_size datum.body)

-- 34: "bad name, format, .. given"
unfoldable pub misgiven : Offer → Bool
misgiven pipe = not (is_good pipe)

-- "Codes: 0..6 always; 100..103 only by a server in phase 1."
unfoldable pub good_code : Endpoint → ℕ → Bool
good_code e code = leb code 6 || ((leb 100 code && leb code 103) && (eqb e.role server && eqb e.phase opening))

-- 35: "bad CLOSE code"
unfoldable pub miscoded : Endpoint → ℕ → Bool
miscoded e code = not (good_code e code)

-- the number of a test where it applies, and 0 where it does not
unfoldable pub number_if : Bool → ℕ → ℕ
number_if applies number = cond applies number 0

-- what a call sends: its type, type-data and ask, the data frames that it has where this endpoint sends it, and which of 33, 34 and 35
-- refuses it there, or 0. Each of these three numbers is of one call alone.
pub record Sends : Type 0 where
  pub message : MessageType
  pub type-data : ℕ
  pub ask : Bool
  pub frames : Endpoint → List (List ℕ)
  pub own : Endpoint → ℕ

abbrev pub sends : MessageType → ℕ → Bool → (Endpoint → List (List ℕ)) → (Endpoint → ℕ) → Sends
sends message type-data ask frames own = record { message = message; type-data = type-data; ask = ask; frames = frames; own = own }

-- type, type-data, ask, data frames, own test: a row for each call; who may make it and when, and what follows, has its row in `table/specs/Table`.
-- "OPEN has type-data 0."; "CLOSE has no data frame."
abbrev pub sends_of : Call → Sends
sends_of (OPEN pipe) = sends Open 0 false (λ e. frame_for e.flow pipe e.limit ∷ []) (λ e. number_if (misgiven pipe) 34)
sends_of (READY count) = sends Ready count false (λ e. []) (λ e. 0)
sends_of (DATA datum) = sends Data datum.type-data datum.ask (λ e. as_frames datum.body) (λ e. number_if (above_limit e datum) 33)
sends_of (NOOP type-data ask) = sends Noop type-data ask (λ e. []) (λ e. 0)
sends_of (CLOSE code) = sends Close code false (λ e. []) (λ e. number_if (miscoded e code) 35)

-- its columns
abbrev pub message_of : Call → MessageType
message_of call = (sends_of call).message

abbrev pub type_data_of : Call → ℕ
type_data_of call = (sends_of call).type-data

abbrev pub ask_of : Call → Bool
ask_of call = (sends_of call).ask

abbrev pub data_frames : Endpoint → Call → List (List ℕ)
data_frames e call = (sends_of call).frames e

abbrev pub own_number : Endpoint → Call → ℕ
own_number e call = (sends_of call).own e

-- "Flags are 1 with an ask and else 0"
abbrev pub flags_for : Bool → ℕ
flags_for ask = cond ask ack_request 0

-- the bundle of a control frame and data frames
unfoldable pub bundle_with : MessageType → Bool → ℕ → List (List ℕ) → List ℕ
bundle_with message ask type-data frames = bundle_of (bytes_of message (flags_for ask) type-data ∷ frames)

-- the bytes of a call
abbrev pub written : Endpoint → Call → List ℕ
written e call = bundle_with (message_of call) (ask_of call) (type_data_of call) (data_frames e call)

-- what is to be tested of an own message: its type, type-data and ask, the number of its own test or 0, and how many bytes its bundle has
pub record Outgoing : Type 0 where
  pub message : MessageType
  pub type_data : ℕ
  pub ask : Bool
  pub own : ℕ
  pub length : ℕ

-- what is to be tested of a call
abbrev pub outgoing : Endpoint → Call → Outgoing
outgoing e call =
    record {
      message = message_of call;
      type_data = type_data_of call;
      ask = ask_of call;
      own = own_number e call;
      length = length (written e call);
    }
