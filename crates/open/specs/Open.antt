-- "Checks run in the order of the numbers", here 18 to 22: each stage hears the opening or refuses it, and the first refusal is the answer.
use Rattle.std.specs.Prelude.{ℕ, ◌+◌, List, Bool, cond, not, ◌&&◌, ◌||◌, ltb, leb, eqb, Option, unwrap_or, Result, Ok, Err}
use Rattle.bytes_be.specs.declared.Place.{Place}
use Rattle.bytes_be.specs.Part.{part_at, same}
use Rattle.wire.specs.Fields.{fault_number}
use Rattle.params.specs.Message.{Check, nowhere}
use Rattle.terms.specs.Announced.{limit_in, announced_number}
use Rattle.open.specs.declared.Parts.{Parts}
use Rattle.open.specs.declared.Opening.{Opening}
use Rattle.open.specs.declared.Refusal.{Refusal}
use Rattle.open.specs.declared.Refusal.TheVariants.{Unreadable, OutOfRange, UnknownSocket, OtherPipe, OtherFormat}
use Rattle.open.specs.Frame.{frame_check, parts_of}
use Rattle.open.specs.Offer.{Offer}

-- "an absent one as the empty place at 0"
abbrev pub or_nowhere : Option Place → Place
or_nowhere place = unwrap_or place nowhere

-- "Heard too are its socket and the places of name, format and parameters", and the limit that the parameters announce; an absent socket is 0
unfoldable pub opening_of : List ℕ → Parts → Opening
opening_of s parts =
    record {
      socket = unwrap_or parts.socket 0;
      name = or_nowhere parts.name;
      format = or_nowhere parts.format;
      parameters = or_nowhere parts.parameters;
      announced = limit_in s (or_nowhere parts.parameters).at ((or_nowhere parts.parameters).at + (or_nowhere parts.parameters).length);
    }

abbrev pub if_good : Check → Opening → Result Opening Refusal
if_good (Ok passed) opening = Ok opening
if_good (Err why) opening = Err (Unreadable why)

-- "18 OPEN frame unreadable"
unfoldable pub readable : List ℕ → ℕ → ℕ → Result Opening Refusal
readable s from to = if_good (frame_check s from to) (opening_of s (parts_of s from to))

-- a stage refuses the opening, or hears it
abbrev pub refused_if : Bool → Refusal → Opening → Result Opening Refusal
refused_if test refusal opening = cond test (Err refusal) (Ok opening)

-- "19 name empty or over 255, format over 255, socket 0 or absent, bad limit"
unfoldable pub out_of_range : Opening → Bool
out_of_range opening =
    eqb opening.name.length 0
    || ltb 255 opening.name.length
    || ltb 255 opening.format.length
    || eqb opening.socket 0
    || not (eqb (announced_number opening.announced) 0)

unfoldable pub in_range : Opening → Result Opening Refusal
in_range opening = refused_if (out_of_range opening) OutOfRange opening

-- "20 socket 3 or more"
unfoldable pub known_socket : Opening → Result Opening Refusal
known_socket opening = refused_if (leb 3 opening.socket) UnknownSocket opening

-- "A consumer-flow server offers socket 1, a producer-flow server socket 2." A producer's flow is 1, and any other a consumer's.
abbrev pub offered_socket : ℕ → ℕ
offered_socket flow = cond (eqb flow 1) 2 1

-- "21 pipe name or socket not the offered one"; name and format "are only compared, never tested: one outside the ranges matches nothing",
-- as 18 and 19 have refused what is outside them
unfoldable pub offered_pipe : List ℕ → ℕ → List ℕ → Opening → Result Opening Refusal
offered_pipe s flow name opening =
    refused_if (not (same (part_at s opening.name) name) || not (eqb opening.socket (offered_socket flow))) OtherPipe opening

-- "22 format not empty and not the offered one"
unfoldable pub offered_format : List ℕ → List ℕ → Opening → Result Opening Refusal
offered_format s format opening =
    refused_if (not (eqb opening.format.length 0) && not (same (part_at s opening.format) format)) OtherFormat opening

-- a stage, where those before it have heard the opening
infixl 5 ◌then◌
abbrev pub ◌then◌ : Result Opening Refusal → (Opening → Result Opening Refusal) → Result Opening Refusal
Ok opening then stage = stage opening
Err refusal then stage = Err refusal

-- 18, 19, 20: what the frame from `from` to `to` says by itself
unfoldable pub open_of : List ℕ → ℕ → ℕ → Result Opening Refusal
open_of s from to =
    readable s from to
    then in_range
    then known_socket

-- 21, 22: and what it says to a server of this flow with this offer
unfoldable pub offered : List ℕ → ℕ → Offer → Result Opening Refusal → Result Opening Refusal
offered s flow offer said =
    said
    then offered_pipe s flow offer.name
    then offered_format s offer.format

-- 18 to 22
abbrev pub heard_by : List ℕ → ℕ → ℕ → ℕ → Offer → Result Opening Refusal
heard_by s from to flow offer = offered s flow offer (open_of s from to)

abbrev pub refusal_number : Refusal → ℕ
refusal_number (Unreadable why) = fault_number why
refusal_number OutOfRange = 19
refusal_number UnknownSocket = 20
refusal_number OtherPipe = 21
refusal_number OtherFormat = 22

abbrev pub open_number : Result Opening Refusal → ℕ
open_number (Ok opening) = 0
open_number (Err refusal) = refusal_number refusal
