-- What is on its way between two ends: calls that were accepted, confirmations, and the CLOSEs of refusals; their bytes, and what
-- is told of them.
use Rattle.std.specs.Prelude.{ℕ, List, []}
use Rattle.control.specs.declared.MessageType.{MessageType}
use Rattle.control.specs.declared.MessageType.TheVariants.{Noop, Close}
use Rattle.control.specs.Frame.{ack_reply, type_of}
use Rattle.endpoint.specs.declared.Endpoint.{Endpoint}
use Rattle.receiving.specs.Receiving.{reply_bytes}
use Rattle.sending.specs.Calls.{Body, Missing, Datum, Call, OPEN, READY, DATA, NOOP, CLOSE, message_of, type_data_of, ask_of, flags_for, written}
use Rattle.sending.specs.Options.{how_of}
use Rattle.machine.specs.Programs.{Queued, Told}
use Rattle.machine.specs.Runs.{as_reply}
use Rattle.session.specs.World.{data_sent, ready_count}
use Rattle.receiving.specs.Refusing.{replying}

-- a call with the record that it was made on; the confirmation of a message; the CLOSE of a refusal
pub data Packet : Type 0 where
  Called : Endpoint → Call → Packet
  Confirms : MessageType → ℕ → Packet
  Closes : ℕ → Packet

abbrev pub queued_in : Packet → Queued
queued_in (Called e call) = record { bytes = written e call; how = how_of call }
queued_in (Confirms message type-data) = as_reply (reply_bytes (replying message ack_reply type-data))
queued_in (Closes code) = as_reply (reply_bytes (replying Close 0 code))

abbrev pub bytes_in : Packet → List ℕ
bytes_in m = (queued_in m).bytes

-- what is told of it
abbrev pub body_sent : Call → Body
body_sent (OPEN asked) = Missing
body_sent (READY count) = Missing
body_sent (DATA datum) = datum.body
body_sent (NOOP type-data ask) = Missing
body_sent (CLOSE code) = Missing

abbrev pub told_in : Packet → Told
told_in (Called e call) =
    record {
      message = type_of (message_of call);
      flags = flags_for (ask_of call);
      type-data = type_data_of call;
      body = body_sent call;
    }
told_in (Confirms message type-data) = record { message = type_of message; flags = ack_reply; type-data = type-data; body = Missing }
told_in (Closes code) = record { message = type_of Close; flags = 0; type-data = code; body = Missing }

-- the message whose row it takes: "NOOP, and any message with ACK-REPLY"
abbrev pub row_message : Packet → MessageType
row_message (Called e call) = message_of call
row_message (Confirms message type-data) = Noop
row_message (Closes code) = Close

abbrev pub type_data_in : Packet → ℕ
type_data_in (Called e call) = type_data_of call
type_data_in (Confirms message type-data) = type-data
type_data_in (Closes code) = code

-- the data and the count of a READY that it carries
abbrev pub data_in : Packet → List Datum
data_in (Called e call) = data_sent call
data_in (Confirms message type-data) = []
data_in (Closes code) = []

abbrev pub ready_in : Packet → List ℕ
ready_in m = ready_count (row_message m) (type_data_in m)
