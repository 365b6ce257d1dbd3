-- The call that a message is of, read off its bytes.
use Rattle.std.specs.Prelude.{ℕ, ◌+◌, ◌≡◌, List, cond, eqb, Result, Ok, Err}
use Rattle.bytes_be.specs.Part.{part_at}
use Rattle.control.specs.declared.MessageType.{MessageType}
use Rattle.control.specs.declared.MessageType.TheVariants.{Open, Ready, Noop, Data, Close}
use Rattle.control.specs.Frame.{ack_request}
use Rattle.open.specs.Offer.{offer_of}
use Rattle.open.specs.Open.{open_of}
use Rattle.message.specs.declared.Message.{Message}
use Rattle.message.specs.declared.Reason.{Reason}
use Rattle.message.specs.declared.Refusal.{Refusal as Refusal-of-message}
use Rattle.message.specs.Reading.{body_place, reading_of}
use Rattle.endpoint.specs.declared.Endpoint.{Endpoint}
use Rattle.open.specs.declared.Opening.{Opening}
use Rattle.open.specs.declared.Refusal.{Refusal}
use Rattle.receiving.specs.Hearing.{confirms}
use Rattle.sending.specs.Calls.{Call, OPEN, READY, DATA, NOOP, CLOSE, written}
use Rattle.sending.specs.Sending.{send_of}
use Rattle.machine.specs.Good.{Fits}
use Rattle.machine.specs.Bodies.{body_at}

pub data CallRead : Type 0 where
  NoCall : CallRead
  TheCall : Call → CallRead

-- an OPEN asks for the pipe name and the format that stand in its frame
abbrev pub open_read : List ℕ → Result Opening Refusal → CallRead
open_read s (Ok opening) = TheCall (OPEN (offer_of (part_at s opening.name) (part_at s opening.format)))
open_read s (Err refusal) = NoCall

-- by the type of the message; whether it asks stands in its flags
abbrev pub call_of : MessageType → List ℕ → Message → CallRead
call_of Open s m = open_read s (open_of s (body_place m.body).at ((body_place m.body).at + (body_place m.body).length))
call_of Ready s m = TheCall (READY m.type_data)
call_of Noop s m = TheCall (NOOP m.type_data (eqb m.flags ack_request))
call_of Data s m =
    TheCall (DATA (record { type-data = m.type_data; ask = eqb m.flags ack_request; body = body_at s m.body }))
call_of Close s m = TheCall (CLOSE m.type_data)

-- a confirmation is of no call
abbrev pub call_read : List ℕ → Result Message (Refusal-of-message Reason) → CallRead
call_read s (Ok m) = cond (confirms m.message m.flags) NoCall (call_of m.message s m)
call_read s (Err refusal) = NoCall

abbrev pub call_in : List ℕ → CallRead
call_in s = call_read s (reading_of s)

-- of the bytes that an accepted call wrote, it is that call
abbrev pub CallsReadBack : Type 0
CallsReadBack =
    (e : Endpoint) (call : Call) → Fits call → (room : ℕ) → (send_of e call room).number ≡ 0 → call_in (written e call) ≡ TheCall call
