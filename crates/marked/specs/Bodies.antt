-- C-12 on bytes: a report with nothing but its number, and beside it one with an empty body, as they are sent and heard; and what 15 and 17
-- say of data frames.
use Rattle.std.specs.Prelude.{ℕ, List, [], ◌∷◌, ◌++◌, Bool, false}
use Rattle.bundle.specs.Writing.{bundle_of}
use Rattle.message.specs.Reading.{body_place}
use Rattle.endpoint.specs.declared.Endpoint.{Endpoint}
use Rattle.endpoint.specs.Record.{idle, batch, shut, at_phase}
use Rattle.receiving.specs.Numbers.{Answer, Heard, Stays, Closes}
use Rattle.sending.specs.Calls.{Body, Missing, Given, Call, DATA}
use Rattle.machine.specs.Bodies.{place_heard}
use Rattle.marked.specs.Cases.{Case, the_client, server_in, sent_into, receive, heard_in, outcome, bundle_head, close_frame}

-- the number 500 for "still turning"
abbrev pub turning : Bool → Body → Call
turning ask body = DATA (record { type-data = 500; ask = ask; body = body })

-- its control frame, with these flags
abbrev pub turning_frame : ℕ → List ℕ
turning_frame flags = 0x46 ∷ 0x42 ∷ 0x44 ∷ 0x50 ∷ 0x21 ∷ flags ∷ 0x01 ∷ 0xF4 ∷ []

-- what stands in front of it where an empty data frame stands behind it
abbrev pub head_with_empty : List ℕ
head_with_empty = 0x00 ∷ 0x02 ∷ 0x00 ∷ 0x00 ∷ 0x00 ∷ 0x08 ∷ 0x00 ∷ 0x00 ∷ 0x00 ∷ 0x00 ∷ []

-- the client as the producer of a batch of one
abbrev pub producing : Endpoint
producing = at_phase the_client batch 1

-- "may have no data frame or one": a missing body writes 14 bytes, and an empty one 18
abbrev pub missing_sent : Case
missing_sent = record { found = sent_into 14 producing (turning false Missing); expected = bundle_head ++ turning_frame 0 }

abbrev pub empty_sent : Case
empty_sent = record { found = sent_into 18 producing (turning false (Given [])); expected = head_with_empty ++ turning_frame 0 }

-- "Heard too is the place of its body.": how many data frames there are, and place and length of the body
abbrev pub body_slots : Answer → List ℕ
body_slots (Heard heard) = let place = body_place (place_heard heard.content) in heard.frames ∷ place.at ∷ place.length ∷ []
body_slots (Stays number) = []
body_slots (Closes number) = []

-- what a server in a batch of two makes of a message: what it heard, and what came of it
abbrev pub heard_in_batch : List ℕ → List ℕ
heard_in_batch s = let received = receive (server_in batch 2) s in heard_in received.answer ++ body_slots received.answer ++ outcome received

-- "a missing body is heard as such, apart from an empty one"; either lowers n by one
abbrev pub missing_heard : Case
missing_heard = record { found = heard_in_batch (bundle_head ++ turning_frame 0); expected = 4 ∷ 0 ∷ 500 ∷ 0 ∷ 0 ∷ 0 ∷ 0 ∷ batch ∷ 1 ∷ [] }

abbrev pub empty_heard : Case
empty_heard = record { found = heard_in_batch (head_with_empty ++ turning_frame 0); expected = 4 ∷ 0 ∷ 500 ∷ 1 ∷ 18 ∷ 0 ∷ 0 ∷ batch ∷ 1 ∷ [] }

-- with an ask it is confirmed as any other
abbrev pub missing_confirmed : Case
missing_confirmed =
    record {
      found = heard_in_batch (bundle_head ++ turning_frame 1);
      expected = (4 ∷ 1 ∷ 500 ∷ 0 ∷ 0 ∷ 0 ∷ 0 ∷ batch ∷ 1 ∷ []) ++ bundle_head ++ turning_frame 2;
    }

-- where DATA is not allowed it is 17, and the reply CLOSE 2
abbrev pub missing_forbidden : Case
missing_forbidden =
    record {
      found = outcome (receive (server_in idle 0) (bundle_head ++ turning_frame 0));
      expected = (17 ∷ shut ∷ 0 ∷ []) ++ bundle_head ++ close_frame 2;
    }

-- "15 for such DATA now means two or more", and with ACK-REPLY one is still too many; the reply is CLOSE 1
abbrev pub two_refused : Case
two_refused =
    record {
      found = outcome (receive (server_in batch 1) (bundle_of (turning_frame 0 ∷ [] ∷ [] ∷ [])));
      expected = (15 ∷ shut ∷ 0 ∷ []) ++ bundle_head ++ close_frame 1;
    }

abbrev pub confirmation_with_body_refused : Case
confirmation_with_body_refused =
    record {
      found = outcome (receive (server_in batch 1) (bundle_of (turning_frame 2 ∷ [] ∷ [])));
      expected = (15 ∷ shut ∷ 0 ∷ []) ++ bundle_head ++ close_frame 1;
    }

abbrev pub bodies : List Case
bodies =
    missing_sent
    ∷ empty_sent
    ∷ missing_heard
    ∷ empty_heard
    ∷ missing_confirmed
    ∷ missing_forbidden
    ∷ two_refused
    ∷ confirmation_with_body_refused
    ∷ []
