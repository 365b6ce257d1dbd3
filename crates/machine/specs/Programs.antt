-- A program that makes, sends and receives: what it answers, tells and writes, over states and outputs of any type. `tables` is the program that the
-- contracts of `endpoint`, `sending` and `receiving` describe.
use Rattle.std.specs.Prelude.{ℕ, Result, List, [], ◌∷◌, Option, None, Some}
use Rattle.control.specs.Frame.{type_of}
use Rattle.open.specs.Offer.{Offer}
use Rattle.endpoint.specs.declared.Endpoint.{Endpoint}
use Rattle.endpoint.specs.Record.{fresh_client, fresh_server, given_number, made_of, made_or}
use Rattle.endpoint.specs.declared.BadMaking.{BadMaking}
use Rattle.receiving.specs.Numbers.{Answer, Heard, Stays, Closes, Received}
use Rattle.receiving.specs.Receiving.{answer_number, reply_bytes, received_of}
use Rattle.sending.specs.Calls.{Body, Missing, Call, written}
use Rattle.sending.specs.Sending.{send_of}
use Rattle.machine.specs.Bodies.{body_heard}
use Rattle.control.specs.declared.Control.{Control}

-- "Making a client takes flow and limit; making a server takes flow, with limit 50,000,000."
pub data Making : Type 0 where
  AsClient : ℕ → ℕ → Making
  AsServer : ℕ → Making

abbrev pub fresh_by : Making → Endpoint
fresh_by (AsClient flow limit) = fresh_client flow limit
fresh_by (AsServer flow) = fresh_server flow

-- a message on its way: its bytes, and the options of the call that wrote it, 0 for a reply
pub record Queued : Type 0 where
  pub bytes : List ℕ
  pub how : ℕ

-- "Heard with any message are its type, flags and type-data", and the body of DATA, missing or given; of a refusal nothing is told
pub record Told : Type 0 where
  pub message : ℕ
  pub flags : ℕ
  pub type-data : ℕ
  pub body : Body

abbrev pub nothing_told : Told
nothing_told = record { message = 0; flags = 0; type-data = 0; body = Missing }

-- what comes of making: its number, and the state afterwards
pub record MakeOutcome (A : Type 0) : Type 0 where
  pub number : ℕ
  pub next : A

-- of a call: the bytes that it wrote too, if its number is 0
pub record SendOutcome (A : Type 0) : Type 0 where
  pub number : ℕ
  pub bytes : List ℕ
  pub next : A

-- and of a message: what is told of it, and the bundles replied
pub record ReceiveOutcome (A : Type 0) : Type 0 where
  pub number : ℕ
  pub told : Told
  pub replied : List (List ℕ)
  pub next : A

-- a message that was answered by this number and nothing else
abbrev pub ignored : {A : Type 0} → ℕ → A → ReceiveOutcome A
ignored number self = record { number = number; told = nothing_told; replied = []; next = self }

-- over the states A, with outputs O that have so much room; a message is received with an offer
pub record Program (A O : Type 0) : Type 0 where
  pub room : O → ℕ
  pub make : A → Making → MakeOutcome A
  pub send : A → Call → O → SendOutcome A
  pub receive : A → Queued → Offer → O → ReceiveOutcome A

-- ---- the tables

abbrev pub told_of : List ℕ → Answer → Told
told_of s (Heard heard) =
    record {
      message = type_of heard.message;
      flags = heard.flags;
      type-data = heard.type_data;
      body = body_heard s heard.content;
    }
told_of s (Stays number) = nothing_told
told_of s (Closes number) = nothing_told

-- the bundles of a reply
abbrev pub replies : Option Control → List (List ℕ)
replies None = []
replies (Some frame) = reply_bytes (Some frame) ∷ []

-- what came of the bundle s
abbrev pub outcome_of : List ℕ → Received → ReceiveOutcome Endpoint
outcome_of s received =
    record {
      number = answer_number received.answer;
      told = told_of s received.answer;
      replied = replies received.reply;
      next = received.next;
    }

-- what came of a making over the record before
abbrev pub made_as : Endpoint → Result Endpoint BadMaking → MakeOutcome Endpoint
made_as before made = record { number = given_number made; next = made_or before made }

-- outputs are told by their lengths
abbrev pub tables : Program Endpoint ℕ
tables =
    record {
      room = λ out. out;
      make = λ e making. made_as e (made_of (fresh_by making));
      send = λ e call out. record { number = (send_of e call out).number; bytes = written e call; next = (send_of e call out).next };
      receive = λ e m pipe out. outcome_of m.bytes (received_of e m.bytes pipe out);
    }
