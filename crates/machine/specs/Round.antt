-- What is sent is read, and heard by an end that may hear it, as it was sent; and what is replied is read as it was replied.
use Rattle.std.specs.Prelude.{ℕ, ◌+◌, ◌<◌, ◌^◌, ◌≡◌, List, [], ◌∷◌, Bool, true, false, cond, ◌&&◌, length, get_or, eqb, Option, Some, None, Ok}
use Rattle.bytes_be.specs.declared.Place.{Place}
use Rattle.bytes_be.specs.Part.{part_at}
use Rattle.control.specs.declared.MessageType.{MessageType}
use Rattle.control.specs.declared.MessageType.TheVariants.{Open, Ready, Noop, Data, Close}
use Rattle.control.specs.Frame.{ack_reply}
use Rattle.double.specs.Limit.{most_limit}
use Rattle.terms.specs.Announced.{announced_limit}
use Rattle.open.specs.Offer.{Offer}
use Rattle.open.specs.declared.Opening.{Opening}
use Rattle.open_write.specs.Frame.{socket_of, limit_struct}
use Rattle.open_write.specs.Round.{same_pipe, same_format}
use Rattle.message.specs.declared.Message.{Message}
use Rattle.message.specs.Reading.{body_place, reading_of}
use Rattle.endpoint.specs.declared.Endpoint.{Endpoint}
use Rattle.endpoint.specs.Record.{confirmed, limited}
use Rattle.table.specs.Table.{To, at_row}
use Rattle.receiving.specs.declared.Content.{Content}
use Rattle.receiving.specs.declared.Content.TheVariants.{Nothing, Opening as Content-as-Opening, Body as Content-as-Body}
use Rattle.receiving.specs.Numbers.{Heard}
use Rattle.receiving.specs.Hearing.{confirms, hear_row, too_large, unmatched, hear_of}
use Rattle.receiving.specs.Receiving.{reply_bytes, received_of}
use Rattle.sending.specs.Calls.{Body, Missing, Given, Call, OPEN, READY, DATA, NOOP, CLOSE, message_of, type_data_of, ask_of, flags_for, data_frames, written}
use Rattle.sending.specs.Sending.{send_of}
use Rattle.machine.specs.Good.{Fits}
use Rattle.control.specs.declared.Control.{Control}
use Rattle.receiving.specs.Refusing.{replying}

-- the first of the data frames, empty where there is none: OPEN's, and the body of DATA
abbrev pub first_frame : List (List ℕ) → List ℕ
first_frame [] = []
first_frame (frame ∷ rest) = frame

-- where it stands: behind the frame count, two lengths and the control frame
abbrev pub place_behind : List (List ℕ) → Option Place
place_behind [] = None
place_behind (frame ∷ rest) = Some (record { at = 18; length = length frame })

-- a message of these data frames, of which there is at most one
abbrev pub message_with : MessageType → ℕ → ℕ → List (List ℕ) → Message
message_with message flags type-data frames =
    record {
      message = message;
      flags = flags;
      type_data = type-data;
      frames = length frames;
      size = 8 + length (first_frame frames);
      body = place_behind frames;
    }

-- the message of a call
abbrev pub message_sent : Endpoint → Call → Message
message_sent e call = message_with (message_of call) (flags_for (ask_of call)) (type_data_of call) (data_frames e call)

-- the bytes of a call are read as its message, and its data frame, if it has one, stands where the message says
pub record ReadBack (e : Endpoint) (call : Call) : Type 0 where
  pub read : reading_of (written e call) ≡ Ok (message_sent e call)
  pub framed : part_at (written e call) (body_place (message_sent e call).body) ≡ first_frame (data_frames e call)

-- for every call that is accepted
abbrev pub ReadsBack : Type 0
ReadsBack =
    (e : Endpoint) (call : Call) → Fits call → (room : ℕ) → (send_of e call room).number ≡ 0
    → ReadBack e call

-- whether an OPEN asks for what is offered to it: "pipe name or socket not the offered one", "format not empty and not the offered one"
abbrev pub is_offered : Endpoint → Call → Endpoint → Offer → Bool
is_offered e (OPEN asked) r pipe = same_pipe e.flow asked r.flow pipe && same_format asked pipe
is_offered e (READY count) r pipe = true
is_offered e (DATA datum) r pipe = true
is_offered e (NOOP type-data ask) r pipe = true
is_offered e (CLOSE code) r pipe = true

-- the other end may hear it: its row leads to this phase and n, it is not too large, and an OPEN asks for what is offered
pub record MayHear (e : Endpoint) (call : Call) (r : Endpoint) (pipe : Offer) (phase n : ℕ) : Type 0 where
  pub leads : hear_row r (message_sent e call) ≡ To phase n
  pub small : too_large r (message_sent e call) ≡ false
  pub offered : is_offered e call r pipe ≡ true

-- an opening with the socket, name, format, parameters and limit that were sent
pub record OpeningSent (e : Endpoint) (asked : Offer) (s : List ℕ) (content : Content) : Type 0 where
  pub opening : Opening
  pub is : content ≡ Content-as-Opening opening
  pub socket : opening.socket ≡ socket_of e.flow
  pub named : part_at s opening.name ≡ asked.name
  pub formatted : part_at s opening.format ≡ asked.format
  pub parametrized : part_at s opening.parameters ≡ cond (eqb e.limit most_limit) [] (limit_struct e.limit)
  pub announced : announced_limit opening.announced ≡ e.limit

-- the place of a body that was given
pub record PlaceSent (bytes s : List ℕ) (content : Content) : Type 0 where
  pub place : Place
  pub is : content ≡ Content-as-Body place
  pub stands : part_at s place ≡ bytes

-- and none where it was missing
abbrev pub BodySent : Body → List ℕ → Content → Type 0
BodySent Missing s content = content ≡ Nothing
BodySent (Given bytes) s content = PlaceSent bytes s content

-- what is heard of a call in its bytes, beside type, flags and type-data
abbrev pub ContentSent : Endpoint → Call → List ℕ → Content → Type 0
ContentSent e (OPEN asked) s content = OpeningSent e asked s content
ContentSent e (READY count) s content = content ≡ Nothing
ContentSent e (DATA datum) s content = BodySent datum.body s content
ContentSent e (NOOP type-data ask) s content = content ≡ Nothing
ContentSent e (CLOSE code) s content = content ≡ Nothing

-- the other end after it: where the row leads to, and after an OPEN with the limit of the end that sent it
abbrev pub after_hearing : Endpoint → Call → Endpoint → Endpoint
after_hearing e (OPEN asked) moved = limited moved e.limit
after_hearing e (READY count) moved = moved
after_hearing e (DATA datum) moved = moved
after_hearing e (NOOP type-data ask) moved = moved
after_hearing e (CLOSE code) moved = moved

-- "the reply is the control frame with flags 2 for 1"
abbrev pub confirmation : Call → Option Control
confirmation call = cond (ask_of call) (replying (message_of call) ack_reply (type_data_of call)) None

-- a call is heard with its type, flags, type-data, data frames and content, and confirmed where it asks for that
pub record HeardBack (e : Endpoint) (call : Call) (r : Endpoint) (pipe : Offer) (phase n : ℕ) : Type 0 where
  pub content : Content
  pub carried : ContentSent e call (written e call) content
  pub answered : (hear_of r (written e call) pipe).answer ≡
      Heard
      (record {
        message = message_of call;
        flags = flags_for (ask_of call);
        type_data = type_data_of call;
        frames = length (data_frames e call);
        content = content;
      })
  pub after : (hear_of r (written e call) pipe).next ≡ after_hearing e call (at_row r phase n)
  pub replied : (hear_of r (written e call) pipe).reply ≡ confirmation call

-- for every call that is accepted, and every end that may hear it
abbrev pub HeardAsSent : Type 0
HeardAsSent =
    (e : Endpoint) (call : Call) → Fits call → (room : ℕ) → (send_of e call room).number ≡ 0
    → (r : Endpoint) (pipe : Offer) (phase n : ℕ) → MayHear e call r pipe phase n
    → HeardBack e call r pipe phase n

-- the replies: the CLOSE of a refusal, with flags 0, and the confirmation of a NOOP or DATA, with flags 2
abbrev pub is_reply : MessageType → ℕ → Bool
is_reply Open flags = false
is_reply Ready flags = false
is_reply Noop flags = eqb flags ack_reply
is_reply Data flags = eqb flags ack_reply
is_reply Close flags = eqb flags 0

-- each is read as it was replied
abbrev pub RepliesReadBack : Type 0
RepliesReadBack =
    (message : MessageType) (flags type-data : ℕ) → is_reply message flags ≡ true → type-data < 256 ^ 2
    → reading_of (reply_bytes (replying message flags type-data)) ≡ Ok (message_with message flags type-data [])

-- and a receive makes no other
abbrev pub RepliesOnly : Type 0
RepliesOnly =
    (e : Endpoint) (s : List ℕ) → ((i : ℕ) → get_or s i 0 < 256) → (pipe : Offer) (room : ℕ) (message : MessageType) (flags type-data : ℕ)
    → (received_of e s pipe room).reply ≡ replying message flags type-data → (is_reply message flags ≡ true) × (type-data < 256 ^ 2)

-- an end may hear a reply: its row leads to this phase and n, it is not too large, and a confirmation is that of the oldest entry
pub record MayHearReply (message : MessageType) (flags type-data : ℕ) (r : Endpoint) (phase n : ℕ) : Type 0 where
  pub leads : hear_row r (message_with message flags type-data []) ≡ To phase n
  pub small : too_large r (message_with message flags type-data []) ≡ false
  pub matched : unmatched r (message_with message flags type-data []) ≡ false

-- it is heard as it was replied: a confirmation removes the oldest entry, and nothing is replied to it
abbrev pub RepliesHeard : Type 0
RepliesHeard =
    (message : MessageType) (flags type-data : ℕ) → is_reply message flags ≡ true → type-data < 256 ^ 2
    → (r : Endpoint) (pipe : Offer) (phase n : ℕ) → MayHearReply message flags type-data r phase n
    → hear_of r (reply_bytes (replying message flags type-data)) pipe ≡
    record {
      answer = Heard (record { message = message; flags = flags; type_data = type-data; frames = 0; content = Nothing });
      next = cond (confirms message flags) (confirmed (at_row r phase n)) (at_row r phase n);
      reply = None;
    }
