-- "Bad input is refused by a listed number": what a receive answers, with each refusal by its number, and the number of each refusal that the code
-- has by its name.
use Rattle.std.specs.Prelude.{ℕ, ◌≡◌, cond, eqb, Option, Err}
use Rattle.control.specs.declared.Control.{Control}
use Rattle.control.specs.declared.Refusal.TheVariants.{BadSignature, OtherVersion, UnknownType}
use Rattle.wire.specs.declared.Kind.TheVariants.{Other}
use Rattle.open.specs.declared.Refusal.TheVariants.{Unreadable as Open-unreadable, OutOfRange as Open-out-of-range, UnknownSocket as Open-unknown-socket, OtherPipe as Open-other-pipe, OtherFormat as Open-other-format}
use Rattle.open.specs.Open.{refusal_number as open_number}
use Rattle.message.specs.Reading.{reason_number}
use Rattle.message.specs.declared.Reason.TheVariants.{BadBundle, Control as BadControl, BadFlags, BadFrames}
use Rattle.endpoint.specs.declared.Endpoint.{Endpoint}
use Rattle.table.specs.declared.Refusal.TheVariants.{NotAllowed as Row-not-allowed, AboveOffer as Row-above-offer}
use Rattle.table.specs.Table.{hear_number}
use Rattle.receiving.specs.declared.Heard.{Heard as HeardMessage}
use Rattle.receiving.specs.declared.Refusal.{Refusal}
use Rattle.receiving.specs.declared.Refusal.TheVariants.{BadState, ShortOutput, Closed, Message, TooLarge, NotAllowed, Unreadable, OutOfRange, UnknownSocket, OtherPipe, OtherFormat, AboveOffer, Unmatched}
use Rattle.receiving.specs.declared.Answer.{Answer as NamedAnswer}
use Rattle.receiving.specs.declared.Answer.TheVariants.{Heard as NamedHeard, Stays as NamedStays, Closes as NamedCloses}
use Rattle.receiving.specs.declared.Received.{Received as NamedReceived}

-- a message is heard, or refused by a number: "All others change no byte.", or "Numbers 10..24 given by a receive set phase 5"
pub data Answer : Type 0 where
  Heard : HeardMessage → Answer
  Stays : ℕ → Answer
  Closes : ℕ → Answer

-- with what the endpoint becomes, and "a single control frame", if one is written
pub record Received : Type 0 where
  pub answer : Answer
  pub next : Endpoint
  pub reply : Option Control

-- an OPEN frame that is unreadable, whatever its fault: every fault has one number
abbrev pub unreadable_number : ℕ
unreadable_number = open_number (Open-unreadable (record { kind = Other; at = 0 }))

-- "Checks run in the order of the numbers 1, 2, 3, 10..24"
abbrev pub refusal_number : Refusal → ℕ
refusal_number BadState = 1
refusal_number ShortOutput = 2
refusal_number Closed = 3
refusal_number (Message why) = reason_number why
refusal_number TooLarge = 16
refusal_number NotAllowed = hear_number (Err Row-not-allowed)
refusal_number Unreadable = unreadable_number
refusal_number OutOfRange = open_number Open-out-of-range
refusal_number UnknownSocket = open_number Open-unknown-socket
refusal_number OtherPipe = open_number Open-other-pipe
refusal_number OtherFormat = open_number Open-other-format
refusal_number AboveOffer = hear_number (Err Row-above-offer)
refusal_number Unmatched = 24

abbrev pub answer_as : NamedAnswer → Answer
answer_as (NamedHeard heard) = Heard heard
answer_as (NamedStays refusal) = Stays (refusal_number refusal)
answer_as (NamedCloses refusal) = Closes (refusal_number refusal)

abbrev pub received_as : NamedReceived → Received
received_as received = record { answer = answer_as received.answer; next = received.next; reply = received.reply }

-- the other way: the refusal that has a number, and the last where none has it
abbrev pub refusal_by : ℕ → Refusal
refusal_by number =
    cond (eqb number 1) BadState
    (cond (eqb number 2) ShortOutput
    (cond (eqb number 3) Closed
    (cond (eqb number 10) (Message BadBundle)
    (cond (eqb number 11) (Message (BadControl BadSignature))
    (cond (eqb number 12) (Message (BadControl OtherVersion))
    (cond (eqb number 13) (Message (BadControl UnknownType))
    (cond (eqb number 14) (Message BadFlags)
    (cond (eqb number 15) (Message BadFrames)
    (cond (eqb number 16) TooLarge
    (cond (eqb number 17) NotAllowed
    (cond (eqb number 18) Unreadable
    (cond (eqb number 19) OutOfRange
    (cond (eqb number 20) UnknownSocket
    (cond (eqb number 21) OtherPipe
    (cond (eqb number 22) OtherFormat
    (cond (eqb number 23) AboveOffer
    Unmatched))))))))))))))))

abbrev pub answer_by : Answer → NamedAnswer
answer_by (Heard heard) = NamedHeard heard
answer_by (Stays number) = NamedStays (refusal_by number)
answer_by (Closes number) = NamedCloses (refusal_by number)

abbrev pub received_by : Received → NamedReceived
received_by received = record { answer = answer_by received.answer; next = received.next; reply = received.reply }

-- so what is answered by number is all that is answered
abbrev pub NumbersTellAll : Type 0
NumbersTellAll = (received : NamedReceived) → received_by (received_as received) ≡ received
