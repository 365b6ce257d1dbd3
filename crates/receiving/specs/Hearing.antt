-- "Receiving": "Checks run in the order of the numbers .. and the first that applies is given." What an endpoint with an offer makes of a
-- message.
use Rattle.std.specs.Prelude.{ℕ, ◌+◌, List, Bool, true, false, cond, not, ◌&&◌, ◌||◌, ltb, eqb, Result, Ok, Err, Option, Some, None}
use Rattle.bytes_be.specs.declared.Place.{Place}
use Rattle.control.specs.declared.Control.{Control}
use Rattle.control.specs.declared.MessageType.{MessageType}
use Rattle.control.specs.declared.MessageType.TheVariants.{Open, Ready, Noop, Data, Close}
use Rattle.control.specs.Frame.{ack_request, ack_reply, type_of}
use Rattle.terms.specs.Announced.{announced_limit}
use Rattle.open.specs.Offer.{Offer}
use Rattle.open.specs.declared.Opening.{Opening}
use Rattle.open.specs.declared.Refusal.{Refusal as Refusal-of-open}
use Rattle.open.specs.Open.{heard_by, refusal_number}
use Rattle.message.specs.declared.Message.{Message}
use Rattle.message.specs.declared.Reason.{Reason}
use Rattle.message.specs.declared.Refusal.{Refusal as Refusal-of-message}
use Rattle.message.specs.Reading.{body_place, reading_of, reading_number, said_in}
use Rattle.endpoint.specs.declared.Endpoint.{Endpoint}
use Rattle.endpoint.specs.Record.{shut, oldest, confirmed, limited}
use Rattle.table.specs.declared.Refusal.TheVariants.{NotAllowed, AboveOffer}
use Rattle.table.specs.declared.Refusal.{Refusal}
use Rattle.table.specs.declared.Step.{Step}
use Rattle.table.specs.Table.{row_of, hear_number, not_allowed, above_offer, other, moved}
use Rattle.receiving.specs.declared.Content.{Content}
use Rattle.receiving.specs.declared.Content.TheVariants.{Nothing, Opening as Content-as-Opening, Body as Content-as-Body}
use Rattle.receiving.specs.Numbers.{Heard, Received}
use Rattle.receiving.specs.Refusing.{replying, refused, unchanged}

-- the types that ask for a confirmation, and are confirmed: 14 refuses ACK-REPLY on OPEN and READY, and a CLOSE stays a CLOSE "whatever its
-- flags"
abbrev pub confirmable : MessageType → Bool
confirmable Open = false
confirmable Ready = false
confirmable Noop = true
confirmable Data = true
confirmable Close = false

-- "any message with ACK-REPLY"
abbrev pub confirms : MessageType → ℕ → Bool
confirms message flags = confirmable message && eqb flags ack_reply

-- "NOOP or DATA with ACK-REQUEST .. Elsewhere ACK-REQUEST is ignored."
abbrev pub asks : MessageType → ℕ → Bool
asks message flags = confirmable message && eqb flags ack_request

-- "NOOP, and any message with ACK-REPLY: phase 2, 3 or 4."
unfoldable pub moves_as : MessageType → ℕ → MessageType
moves_as message flags = cond (confirms message flags) Noop message

-- what may be heard is what the other end may send
unfoldable pub hear_row : Endpoint → Message → Result Step Refusal
hear_row e m =
    row_of (other e.role) (other e.flow) e.phase e.n (moves_as m.message m.flags) m.type_data

-- 17: "role, flow or phase doesn't allow it"
unfoldable pub forbidden : Endpoint → Message → Bool
forbidden e m = not_allowed (hear_row e m)

-- 16: "size above limit, or OPEN frame above 4,096"; never asked of a CLOSE
abbrev pub large_by : MessageType → Bool → ℕ → Bool
large_by Open above frame = above || ltb 4096 frame
large_by Ready above frame = above
large_by Noop above frame = above
large_by Data above frame = above
large_by Close above frame = false

unfoldable pub too_large : Endpoint → Message → Bool
too_large e m = large_by m.message (ltb e.limit m.size) (body_place m.body).length

-- what a message carries beside type, flags and type-data, or which of 18 to 22 refuses it
abbrev pub Carried : Type 0
Carried = Result Content Refusal-of-open

-- 18 to 22, or "its socket and the places of name, format and parameters"
abbrev pub open_carried : Result Opening Refusal-of-open → Carried
open_carried (Ok opening) = Ok (Content-as-Opening opening)
open_carried (Err refusal) = Err refusal

-- "Heard too is the place of its body."
abbrev pub body_carried : Option Place → Content
body_carried None = Nothing
body_carried (Some place) = Content-as-Body place

-- what the OPEN frame at a place says to this endpoint
unfoldable pub open_at : Endpoint → List ℕ → Offer → Place → Carried
open_at e s pipe place = open_carried (heard_by s place.at (place.at + place.length) e.flow pipe)

-- only OPEN is read inside
abbrev pub carried_as : MessageType → Carried → Carried → Carried
carried_as Open frame body = frame
carried_as Ready frame body = body
carried_as Noop frame body = body
carried_as Data frame body = body
carried_as Close frame body = body

unfoldable pub carried_by : Endpoint → List ℕ → Offer → Message → Carried
carried_by e s pipe m = carried_as m.message (open_at e s pipe (body_place m.body)) (Ok (body_carried m.body))

-- "ACK-REPLY must equal the oldest entry in type and type-data"
unfoldable pub matches_oldest : Endpoint → MessageType → ℕ → Bool
matches_oldest e message type-data =
    ltb 0 e.w && eqb (oldest e).message (type_of message) && eqb (oldest e).type_data type-data

-- 24: "unmatched ACK-REPLY"
unfoldable pub unmatched : Endpoint → Message → Bool
unmatched e m = confirms m.message m.flags && not (matches_oldest e m.message m.type_data)

-- "it removes it. It never touches n."
unfoldable pub confirmed_by : Endpoint → Message → Endpoint
confirmed_by e m = cond (confirms m.message m.flags) (confirmed e) e

-- OPEN: "with the limit announced, or 50,000,000 where none is"
abbrev pub limited_by : Endpoint → Content → Endpoint
limited_by e Nothing = e
limited_by e (Content-as-Opening opening) = limited e (announced_limit opening.announced)
limited_by e (Content-as-Body place) = e

-- "the reply is the control frame with flags 2 for 1"
unfoldable pub reply_to : Message → Option Control
reply_to m = cond (asks m.message m.flags) (replying m.message ack_reply m.type_data) None

-- "Heard with any message are its type, flags and type-data."
unfoldable pub accepted : Endpoint → Message → Result Step Refusal → Content → Received
accepted e m row content =
    record {
      answer =
          Heard
          (record {
            message = m.message;
            flags = m.flags;
            type_data = m.type_data;
            frames = m.frames;
            content = content;
          });
      next = limited_by (confirmed_by (moved e row) m) content;
      reply = reply_to m;
    }

-- the number of what is carried: 0, or 18 to 22
abbrev pub carried_number : Carried → ℕ
carried_number (Ok content) = 0
carried_number (Err refusal) = refusal_number refusal

-- what follows what is carried, or what is read, or its refusal

abbrev pub if_carried : Carried → (ℕ → Received) → (Content → Received) → Received
if_carried (Ok content) refuse next = next content
if_carried (Err refusal) refuse next = refuse (carried_number (Err refusal))

abbrev pub if_read : Result Message (Refusal-of-message Reason) → (ℕ → ℕ → Received) → (Message → Received) → Received
if_read (Ok m) refuse next = next m
if_read (Err refusal) refuse next = refuse (reading_number (Err refusal)) (said_in (Err refusal))

-- 18 to 22; 23, which is the number of the row; 24; and else the message is heard
unfoldable pub hear_content : Endpoint → List ℕ → Offer → Message → Received
hear_content e s pipe m =
    if_carried (carried_by e s pipe m) (λ number. refused e number (type_of m.message)) (λ content.
    cond (above_offer (hear_row e m)) (refused e (hear_number (Err AboveOffer)) (type_of m.message))
    (cond (unmatched e m) (refused e 24 (type_of m.message))
    (accepted e m (hear_row e m) content)))

-- 16, and 17, which is the number of the row
unfoldable pub hear_message : Endpoint → List ℕ → Offer → Message → Received
hear_message e s pipe m =
    cond (too_large e m) (refused e 16 (type_of m.message))
    (cond (forbidden e m) (refused e (hear_number (Err NotAllowed)) (type_of m.message))
    (hear_content e s pipe m))

-- 3, 10 to 15
unfoldable pub hear_of : Endpoint → List ℕ → Offer → Received
hear_of e s pipe =
    cond (eqb e.phase shut) (unchanged e 3)
    (if_read (reading_of s) (refused e) (hear_message e s pipe))
