-- "Numbers 10..24 given by a receive set phase 5, clear n, W and the entries, and write the CLOSE reply .. All others change no byte."
use Rattle.std.specs.Prelude.{ℕ, ◌≡◌, List, Ok}
use Rattle.open.specs.Offer.{Offer}
use Rattle.message.specs.declared.Message.{Message}
use Rattle.message.specs.Reading.{reading_of, said_in}
use Rattle.endpoint.specs.declared.Endpoint.{Endpoint}
use Rattle.receiving.specs.declared.Content.{Content}
use Rattle.receiving.specs.Numbers.{Answer, Heard, Stays, Closes, Received}
use Rattle.receiving.specs.Hearing.{hear_row, accepted}
use Rattle.receiving.specs.Receiving.{received_of}
use Rattle.receiving.specs.Refusing.{close_code, refused, unchanged}
use Rattle.sending.specs.Calls.{Call}
use Rattle.sending.specs.Sending.{unsent, send_of}

-- the type that the control byte of these bytes says, or 0 where none was read
abbrev pub said_by : List ℕ → ℕ
said_by s = said_in (reading_of s)

-- a message that is heard was read, and accepted by its row
pub record Hears (e : Endpoint) (s : List ℕ) (received : Received) : Type 0 where
  pub message : Message
  pub content : Content
  pub read : reading_of s ≡ Ok message
  pub is : received ≡ accepted e message (hear_row e message) content

-- a number that closes has a row among the CLOSE codes, and its reply is by what the bytes say
pub record ClosesBy (e : Endpoint) (s : List ℕ) (number : ℕ) (received : Received) : Type 0 where
  pub coded : close_code e number (said_by s) ≡ 0 → ⊥
  pub is : received ≡ refused e number (said_by s)

-- what an answer says is what was done
abbrev pub DoesAs : Endpoint → List ℕ → Received → Answer → Type 0
DoesAs e s received (Heard heard) = Hears e s received
DoesAs e s received (Stays number) = received ≡ unchanged e number
DoesAs e s received (Closes number) = ClosesBy e s number received

abbrev pub ReceiveDoes : Type 0
ReceiveDoes = (e : Endpoint) (s : List ℕ) (pipe : Offer) (room : ℕ) → DoesAs e s (received_of e s pipe room) (received_of e s pipe room).answer

-- and a send that is refused changes nothing
abbrev pub RefusedSendStays : Type 0
RefusedSendStays =
    (e : Endpoint) (call : Call) (room : ℕ) → ((send_of e call room).number ≡ 0 → ⊥) → send_of e call room ≡ unsent e (send_of e call room).number
