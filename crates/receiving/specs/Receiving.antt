-- "Checks run in the order of the numbers 1, 2, 3, 10..24". "A reply is one bundle of 14 bytes: a single control frame." "An accepted send or
-- reply writes its own bytes from the start of the output and nothing behind them."
use Rattle.std.specs.Prelude.{ℕ, ◌≡◌, List, [], ◌∷◌, cond, not, length, ltb, Option, Some, None}
use Rattle.bytes_be.specs.Part.{put_at}
use Rattle.bundle.specs.Writing.{bundle_of}
use Rattle.control.specs.declared.Control.{Control}
use Rattle.control.specs.Frame.{bytes_of}
use Rattle.open.specs.Offer.{Offer}
use Rattle.endpoint.specs.declared.Endpoint.{Endpoint}
use Rattle.endpoint.specs.Record.{good}
use Rattle.receiving.specs.Numbers.{Answer, Heard, Stays, Closes, Received}
use Rattle.receiving.specs.Refusing.{unchanged}
use Rattle.receiving.specs.Hearing.{hear_of}

-- the number answered: 0 for a message that is heard
abbrev pub answer_number : Answer → ℕ
answer_number (Heard heard) = 0
answer_number (Stays number) = number
answer_number (Closes number) = number

-- the bytes of a reply
abbrev pub reply_bytes : Option Control → List ℕ
reply_bytes None = []
reply_bytes (Some frame) = bundle_of (bytes_of frame.message frame.flags frame.type_data ∷ [])

-- the output after it
unfoldable pub replied : Option Control → List ℕ → List ℕ
replied reply out = put_at out 0 (reply_bytes reply)

-- 1, "2 output too short (receive: under 14 bytes, always tested)", and then 3 and 10 to 24
unfoldable pub received_of : Endpoint → List ℕ → Offer → ℕ → Received
received_of e s pipe room =
    cond (not (good e)) (unchanged e 1)
    (cond (ltb room 14) (unchanged e 2)
    (hear_of e s pipe))

-- what a receive answers, and the output afterwards
pub record ReceiveAnswer (e : Endpoint) (s : List ℕ) (pipe : Offer) (before : List ℕ) (received : Received) (after : List ℕ) : Type 0 where
  pub answered : received ≡ received_of e s pipe (length before)
  pub left : after ≡ replied (received_of e s pipe (length before)).reply before
