-- Every send and every receive leaves a good endpoint good, and its entries 48 bytes.
use Rattle.std.specs.Prelude.{ℕ, ◌<◌, ◌^◌, ◌≡◌, List, true, get_or}
use Rattle.open.specs.Offer.{Offer}
use Rattle.endpoint.specs.declared.Endpoint.{Endpoint}
use Rattle.endpoint.specs.Record.{good}
use Rattle.endpoint.specs.Round.{Sized}
use Rattle.receiving.specs.Receiving.{received_of}
use Rattle.sending.specs.Calls.{Call, type_data_of}
use Rattle.sending.specs.Sending.{send_of}

-- a good endpoint of the size that its type says
pub record Sound (e : Endpoint) : Type 0 where
  pub sized : Sized e
  pub is-good : good e ≡ true

-- "type-data (2 bytes)": the count, type-data or code of a call is a number of two bytes
abbrev pub Fits : Call → Type 0
Fits call = type_data_of call < 256 ^ 2

-- whatever is sent, and whether it is accepted or refused
abbrev pub SentGood : Type 0
SentGood = (e : Endpoint) → Sound e → (call : Call) → Fits call → (room : ℕ) → Sound (send_of e call room).next

-- whatever bytes are received, with whatever name and format offered, and whether the message is heard or refused
abbrev pub HeardGood : Type 0
HeardGood =
    (e : Endpoint) → Sound e → (s : List ℕ) → ((i : ℕ) → get_or s i 0 < 256) → (pipe : Offer) (room : ℕ)
    → Sound (received_of e s pipe room).next
