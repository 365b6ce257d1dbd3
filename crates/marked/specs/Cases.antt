-- "Marked cases": each with what the rules find and what document 01 expects, as numbers, and the one test that compares them. The pipe is
-- `press7`, from a client that produces to a server that consumes.
use Rattle.std.specs.Prelude.{ℕ, List, [], ◌∷◌, ◌++◌, Bool, true, false, ◌&&◌, length, replicate}
use Rattle.bytes_be.specs.Part.{same}
use Rattle.bytes_be.specs.Ascii.{ascii}
use Rattle.bundle.specs.Writing.{bundle_of}
use Rattle.control.specs.declared.MessageType.TheVariants.{Ready, Close}
use Rattle.control.specs.Frame.{type_of, bytes_of}
use Rattle.double.specs.Double.{bytes_of as Double·bytesOf}
use Rattle.double.specs.Limit.{most_limit}
use Rattle.open.specs.Offer.{Offer, offer_of}
use Rattle.open_write.specs.Frame.{frame_for}
use Rattle.endpoint.specs.declared.Endpoint.{Endpoint}
use Rattle.endpoint.specs.Record.{producer, consumer, idle, batch, shut, fresh_client, fresh_server, at_phase}
use Rattle.receiving.specs.Numbers.{Answer, Heard, Stays, Closes, Received}
use Rattle.receiving.specs.Receiving.{answer_number, reply_bytes, received_of}
use Rattle.sending.specs.Calls.{Given, Call, OPEN, READY, DATA, written}
use Rattle.sending.specs.Sending.{send_of, left_by}

pub record Case : Type 0 where
  pub found : List ℕ
  pub expected : List ℕ

-- the pipe `press7`, with the empty format
abbrev pub the_pipe : Offer
the_pipe = offer_of (ascii "press7") []

-- the client with the default limit, before its first message
abbrev pub the_client : Endpoint
the_client = fresh_client producer most_limit

-- the server, in any phase and with any n
abbrev pub server_in : ℕ → ℕ → Endpoint
server_in phase n = at_phase (fresh_server consumer) phase n

-- an output with room for so many bytes, after a send
abbrev pub sent_into : ℕ → Endpoint → Call → List ℕ
sent_into room e call = left_by (send_of e call room) (written e call) (replicate room 0)

-- a receive with just room for a reply, at an end that offers the pipe
abbrev pub receive : Endpoint → List ℕ → Received
receive e s = received_of e s the_pipe 14

-- "Heard with any message are its type, flags and type-data."
abbrev pub heard_in : Answer → List ℕ
heard_in (Heard heard) = type_of heard.message ∷ heard.flags ∷ heard.type_data ∷ []
heard_in (Stays number) = []
heard_in (Closes number) = []

-- what came of a receive: the number, the phase and n, and the bytes of the reply
abbrev pub outcome : Received → List ℕ
outcome received =
    (answer_number received.answer ∷ received.next.phase ∷ received.next.n ∷ [])
    ++ reply_bytes received.reply

-- what stands in front of a control frame that has no data frame behind it
abbrev pub bundle_head : List ℕ
bundle_head = 0x00 ∷ 0x01 ∷ 0x00 ∷ 0x00 ∷ 0x00 ∷ 0x08 ∷ []

-- the frame of CLOSE with a code below 256
abbrev pub close_frame : ℕ → List ℕ
close_frame code = 0x46 ∷ 0x42 ∷ 0x44 ∷ 0x50 ∷ 0x29 ∷ 0x00 ∷ 0x00 ∷ code ∷ []

-- "K1 READY(8) frame: 46 42 44 50 11 00 00 08."
abbrev pub k1 : Case
k1 =
    record {
      found = bytes_of Ready 0 8;
      expected = 0x46 ∷ 0x42 ∷ 0x44 ∷ 0x50 ∷ 0x11 ∷ 0x00 ∷ 0x00 ∷ 0x08 ∷ [];
    }

-- "K2 its bundle: 00 01 00 00 00 08, then K1.": the output of an idle server that sends READY(8)
abbrev pub k2 : Case
k2 = record { found = sent_into 14 (server_in idle 0) (READY 8); expected = bundle_head ++ k1.expected }

-- "K3 NOOP 46 42 44 50 19 01 12 34 is replied 46 42 44 50 19 02 12 34.": at an idle server, which stays idle
abbrev pub k3 : Case
k3 =
    record {
      found = outcome (receive (server_in idle 0) (bundle_of ((0x46 ∷ 0x42 ∷ 0x44 ∷ 0x50 ∷ 0x19 ∷ 0x01 ∷ 0x12 ∷ 0x34 ∷ []) ∷ [])));
      expected = (0 ∷ idle ∷ 0 ∷ []) ++ bundle_head ++ (0x46 ∷ 0x42 ∷ 0x44 ∷ 0x50 ∷ 0x19 ∷ 0x02 ∷ 0x12 ∷ 0x34 ∷ []);
    }

-- "K4 OPEN frame for `press7`, producer, default limit: 0A 06 70 72 65 73 73 37 10 01; bundle 28 bytes.": the frame, then how many bytes
-- the send of OPEN writes
abbrev pub k4 : Case
k4 =
    record {
      found = frame_for producer the_pipe most_limit ++ ((send_of the_client (OPEN the_pipe) 28).written ∷ []);
      expected = 0x0A ∷ 0x06 ∷ 0x70 ∷ 0x72 ∷ 0x65 ∷ 0x73 ∷ 0x73 ∷ 0x37 ∷ 0x10 ∷ 0x01 ∷ 28 ∷ [];
    }

-- "K5 the double 1,000,000: 00 00 00 00 80 84 2E 41. With that limit K4's frame has 44 bytes.": the double, then the length
abbrev pub k5 : Case
k5 =
    record {
      found = Double·bytesOf 1000000 ++ (length (frame_for producer the_pipe 1000000) ∷ []);
      expected = 0x00 ∷ 0x00 ∷ 0x00 ∷ 0x00 ∷ 0x80 ∷ 0x84 ∷ 0x2E ∷ 0x41 ∷ 44 ∷ [];
    }

-- a READY with this count, received by the server that has just sent its offer of 5
abbrev pub ready_after_offer : ℕ → Received
ready_after_offer count = receive (send_of (server_in idle 0) (READY 5) 14).next (written the_client (READY count))

-- "K6 offer 5, READY(5): batch of 5."
abbrev pub k6 : Case
k6 = record { found = outcome (ready_after_offer 5); expected = 0 ∷ batch ∷ 5 ∷ [] }

-- "K7 READY(6): 23."; then closed, and the reply is CLOSE 2
abbrev pub k7 : Case
k7 = record { found = outcome (ready_after_offer 6); expected = (23 ∷ shut ∷ 0 ∷ []) ++ bundle_head ++ close_frame 2 }

-- "K8 READY(0): idle."
abbrev pub k8 : Case
k8 = record { found = outcome (ready_after_offer 0); expected = 0 ∷ idle ∷ 0 ∷ [] }

-- a DATA with a body of three bytes
abbrev pub data_message : List ℕ
data_message = written the_client (DATA (record { type-data = 0; ask = false; body = Given (ascii "run") }))

-- what becomes of it at the server, with one DATA still to come
abbrev pub after_data : Received
after_data = receive (server_in batch 1) data_message

-- "K9 n=1, DATA: idle."
abbrev pub k9 : Case
k9 = record { found = outcome after_data; expected = 0 ∷ idle ∷ 0 ∷ [] }

-- "K10 then DATA: 17, CLOSE 2.": the same DATA again, at the server that K9 left
abbrev pub k10 : Case
k10 = record { found = outcome (receive after_data.next data_message); expected = (17 ∷ shut ∷ 0 ∷ []) ++ bundle_head ++ close_frame 2 }

-- "K11 frame count 0: 10.": at an idle server; then closed, and the reply is CLOSE 1
abbrev pub k11 : Case
k11 =
    record {
      found = outcome (receive (server_in idle 0) (0x00 ∷ 0x00 ∷ []));
      expected = (10 ∷ shut ∷ 0 ∷ []) ++ bundle_head ++ close_frame 1;
    }

-- a CLOSE with every flag bit, and code 0, at an idle server
abbrev pub after_close : Received
after_close = receive (server_in idle 0) (bundle_of (bytes_of Close 255 0 ∷ []))

-- "K12 type-5 message with flags 255: heard.": its type, flags and type-data; then 0, closed, and no reply
abbrev pub k12 : Case
k12 = record { found = heard_in after_close.answer ++ outcome after_close; expected = 5 ∷ 255 ∷ 0 ∷ 0 ∷ shut ∷ 0 ∷ [] }

-- "one tabulated fact over the rules: K1..K12"
abbrev pub marked : List Case
marked = k1 ∷ k2 ∷ k3 ∷ k4 ∷ k5 ∷ k6 ∷ k7 ∷ k8 ∷ k9 ∷ k10 ∷ k11 ∷ k12 ∷ []

-- the test of a case, and of a table
abbrev pub passes : Case → Bool
passes case = same case.found case.expected

abbrev pub all_pass : List Case → Bool
all_pass [] = true
all_pass (case ∷ rest) = passes case && all_pass rest
