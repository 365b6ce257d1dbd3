-- "Every refusal has a listed number": those of a send, and what is tested of an own message by them.
use Rattle.std.specs.Prelude.{ℕ, Option, Some, None, Err}
use Rattle.open_write.specs.Frame.{given_number, refused}
use Rattle.table.specs.declared.Refusal.TheVariants.{NotAllowed as Barred, AboveOffer as Above}
use Rattle.table.specs.Table.{send_number}
use Rattle.sending.specs.declared.Outgoing.{Outgoing as Own-message}
use Rattle.sending.specs.declared.Refusal.{Refusal}
use Rattle.sending.specs.declared.Refusal.TheVariants.{BadState, NoRoom, Closed, NotAllowed, AboveOffer, Full, TooLarge, BadOffer, BadCode}
use Rattle.sending.specs.Calls.{Outgoing}

abbrev pub refusal_number : Refusal → ℕ
refusal_number BadState = 1
refusal_number NoRoom = 2
refusal_number Closed = 3
refusal_number NotAllowed = send_number (Err Barred)
refusal_number AboveOffer = send_number (Err Above)
refusal_number Full = 32
refusal_number TooLarge = 33
refusal_number BadOffer = given_number refused
refusal_number BadCode = 35

-- the number of a test that refuses, by those of what it refuses by, or 0
abbrev pub number_by : {Why : Type 0} → (Why → ℕ) → Option Why → ℕ
number_by number (Some why) = number why
number_by number None = 0

-- of a test of the sends
abbrev pub number_in : Option Refusal → ℕ
number_in = number_by refusal_number

-- an own message, with the number of its own test
abbrev pub outgoing_in : {Why : Type 0} → (Why → ℕ) → Own-message Why → Outgoing
outgoing_in number o =
    record { message = o.message; type_data = o.type_data; ask = o.ask; own = number_by number o.own; length = o.length }
