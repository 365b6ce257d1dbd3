-- A message as it is read: "Checks run in the order of the numbers", here 10 to 15. "A CLOSE that passes 10..13 is heard .. whatever its
-- flags, frames or size."
use Rattle.std.specs.Prelude.{ℕ, ◌+◌, ◌-◌, List, Bool, true, false, cond, not, ◌||◌, leb, eqb, Option, Some, None, Result, Ok, Err}
use Rattle.bytes_be.specs.declared.Place.{Place}
use Rattle.bytes_be.specs.Part.{part_at}
use Rattle.numbered.specs.Numbered.{if_passed, number_of}
use Rattle.bundle.specs.declared.BadBundle.{BadBundle as BadBundle-of-bundle}
use Rattle.bundle.specs.Reading.{contents_of, frame_of, bad_number}
use Rattle.control.specs.declared.MessageType.{MessageType}
use Rattle.control.specs.declared.MessageType.TheVariants.{Open, Ready, Noop, Data, Close}
use Rattle.control.specs.declared.Refusal.TheVariants.{BadSignature, OtherVersion, UnknownType}
use Rattle.control.specs.Frame.{ack_request, ack_reply, type_of, type_in, signed_of, version_of, known_type_of, refusal_number as control_number}
use Rattle.message.specs.declared.Message.{Message}
use Rattle.message.specs.declared.Reason.{Reason}
use Rattle.message.specs.declared.Reason.TheVariants.{BadBundle, Control, BadFlags, BadFrames}
use Rattle.message.specs.declared.Refusal.{Refusal}

-- "flag bits 2..7, both flags"
unfoldable pub strange_flags : ℕ → Bool
strange_flags flags = leb 4 flags || eqb flags (ack_request + ack_reply)

-- 14: "flag bits 2..7, both flags, or ACK-REPLY on OPEN or READY"
abbrev pub bad_flags : MessageType → ℕ → Bool
bad_flags Open flags = strange_flags flags || eqb flags ack_reply
bad_flags Ready flags = strange_flags flags || eqb flags ack_reply
bad_flags Noop flags = strange_flags flags
bad_flags Data flags = strange_flags flags
bad_flags Close flags = false

-- 15: "data frames: READY, NOOP, any ACK-REPLY need 0; OPEN .. exactly 1", and by C-12 "DATA without ACK-REPLY may have no data frame or one":
-- "15 for such DATA now means two or more"
abbrev pub bad_frames : MessageType → ℕ → ℕ → Bool
bad_frames Open flags frames = not (eqb frames 1)
bad_frames Ready flags frames = not (eqb frames 0)
bad_frames Noop flags frames = not (eqb frames 0)
bad_frames Data flags frames = cond (eqb flags ack_reply) (not (eqb frames 0)) (leb 2 frames)
bad_frames Close flags frames = false

-- whether a data frame is looked at: OPEN's, and the body of DATA without ACK-REPLY
abbrev pub carries : MessageType → ℕ → Bool
carries Open flags = true
carries Ready flags = false
carries Noop flags = false
carries Data flags = not (eqb flags ack_reply)
carries Close flags = false

-- where it stands
abbrev pub body_in : Result (Option Place) BadBundle-of-bundle → Option Place
body_in (Ok body) = body
body_in (Err bad) = None

-- C-12: "a missing body is heard as such, apart from an empty one"
unfoldable pub body_of : List ℕ → MessageType → ℕ → Option Place
body_of s message flags = cond (carries message flags) (body_in (frame_of s 1)) None

-- the place of a body; the empty place at 0 where there is none
abbrev pub body_place : Option Place → Place
body_place None = record { at = 0; length = 0 }
body_place (Some place) = place

-- a refusal, with the type that the control byte says, or 0 where no control byte was read
abbrev pub refused : {Why : Type 0} → Why → ℕ → Result Message (Refusal Why)
refused why said = Err (record { why = why; said = said })

-- 14, 15, and else the message
abbrev pub tested : ℕ → Message → Result Message (Refusal Reason)
tested said whole =
    cond (bad_flags whole.message whole.flags) (refused BadFlags said)
    (cond (bad_frames whole.message whole.flags whole.frames) (refused BadFrames said)
    (Ok whole))

unfoldable pub read_as : List ℕ → ℕ → MessageType → ℕ → ℕ → ℕ → ℕ → Result Message (Refusal Reason)
read_as s said message flags type-data frames size =
    tested said
    (record {
      message = message;
      flags = flags;
      type_data = type-data;
      frames = frames;
      size = size;
      body = body_of s message flags;
    })

-- 10, 11, 12, 13, and then by the type
unfoldable pub reading_of : List ℕ → Result Message (Refusal Reason)
reading_of s =
    if_passed (contents_of s) (refused BadBundle 0) (λ contents.
    if_passed (signed_of (part_at s contents.control)) (refused (Control BadSignature) 0) (λ signed.
    if_passed (version_of signed.control_byte) (refused (Control OtherVersion) (type_in signed.control_byte)) (λ said.
    if_passed (known_type_of said) (refused (Control UnknownType) said) (λ message.
    read_as s said message signed.flags signed.type_data (contents.count - 1) contents.size))))

-- the numbers 10 to 15
abbrev pub reason_number : Reason → ℕ
reason_number BadBundle = bad_number (record {})
reason_number (Control why) = control_number why
reason_number BadFlags = 14
reason_number BadFrames = 15

-- the number of a refusal is that of its reason
abbrev pub number_by : {Why : Type 0} → (Why → ℕ) → Refusal Why → ℕ
number_by number refusal = number refusal.why

abbrev pub refusal_number : Refusal Reason → ℕ
refusal_number refusal = number_by reason_number refusal

-- the number of a reading: 0, or that of its refusal
abbrev pub reading_by : {Why : Type 0} → (Why → ℕ) → Result Message (Refusal Why) → ℕ
reading_by number = number_of (number_by number)

-- of what is read: 0, or 10 to 15
abbrev pub reading_number : Result Message (Refusal Reason) → ℕ
reading_number = reading_by reason_number

-- the type that the control byte says, or 0 where none was read
abbrev pub said_in : {Why : Type 0} → Result Message (Refusal Why) → ℕ
said_in (Ok m) = type_of m.message
said_in (Err refusal) = refusal.said
