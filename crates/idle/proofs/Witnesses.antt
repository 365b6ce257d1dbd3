-- One opening on its bytes: each step is taken by any program, from where the tables came to in the steps before; and what the tables give there, by
-- computing it. Assumes nothing.
use mathlib.Core.Path.{◌≡◌, refl}
use mathlib.Core.List.{List, [], ◌∷◌}
use Prim.Native.Nat.{ℕ, ◌+◌, ◌≤◌}
use native.Mathlib.Omega.{arith}
use mathlib.Core.Bool.{Bool, true, false}
use lib.ListN.{get_or, length, replicate, take}
use Rattle.bytes_be.specs.Part.{part, put_at}
use Rattle.control.specs.declared.MessageType.TheVariants.{Open}
use Rattle.control.specs.Frame.{ack_reply, ack_request, type_of}
use Rattle.double.specs.Limit.{most_limit}
use Rattle.open.specs.Offer.{no_offer}
use Rattle.endpoint.specs.Record.{fresh, opening, offer, batch, producer, consumer, fresh_client, fresh_server, fresh_of, made_of}
use Rattle.endpoint.specs.Block.{load_of}
use Rattle.sending.specs.Calls.{OPEN, READY, NOOP}
use Rattle.machine.proofs.Computing.{computing}
use Rattle.fbdp.specs.Slots.{heard_slots, slots_in}
use Rattle.fbdp.specs.Blocks.{MakeAnswer, make_number, stored, kept_after, kept_by}
use Rattle.session.specs.Demand.{pipe_a}
use Rattle.entries.specs.Entries.{SendResult, ReceiveResult, Entries, by_tables}

-- a client that produces and a server that consumes, each just made
abbrev pub made_client : List ℕ
made_client = stored (fresh_client producer most_limit) (replicate 64 0)

abbrev pub made_server : List ℕ
made_server = stored (fresh_server consumer) (replicate 64 0)

pub client_made : MakeAnswer (fresh_client producer most_limit) (replicate 64 0) 0 made_client
unfolding fresh_of make_number made_of
client_made = record { numbered = refl; kept = refl }

pub server_made : MakeAnswer (fresh_server consumer) (replicate 64 0) 0 made_server
unfolding fresh_of make_number made_of
server_made = record { numbered = refl; kept = refl }

-- an output with room for the longest message, which is the OPEN
abbrev pub output : List ℕ
output = replicate 23 0

-- the message that a send wrote
abbrev pub message : SendResult → List ℕ
message result = take result.count result.out

-- the client opens, the server hears that and makes an offer, the client hears the offer and agrees, and the server hears that; or instead the
-- server sends a NOOP, with an ask or without, and the client hears the one with an ask

abbrev pub opens : Entries → SendResult
opens p = p.sends (OPEN pipe_a) made_client output

abbrev pub hears_open : Entries → ReceiveResult
hears_open p = p.receives (message (opens by_tables)) pipe_a made_server output

abbrev pub offers : ℕ → Entries → SendResult
offers count p = p.sends (READY count) (hears_open by_tables).block output

abbrev hears_offer : Entries → ReceiveResult
hears_offer p = p.receives (message (offers 1 by_tables)) no_offer (opens by_tables).block output

abbrev agrees : Entries → SendResult
agrees p = p.sends (READY 1) (hears_offer by_tables).block output

abbrev pub hears_agreed : Entries → ReceiveResult
hears_agreed p = p.receives (message (agrees by_tables)) pipe_a (offers 1 by_tables).block output

abbrev pub sends_noop : Bool → Entries → SendResult
sends_noop ask p = p.sends (NOOP 0 ask) (offers 1 by_tables).block output

abbrev pub hears_noop : Entries → ReceiveResult
hears_noop p = p.receives (message (sends_noop true by_tables)) no_offer (hears_offer by_tables).block output

-- a call was accepted, and these bytes stand at this place of its block
pub record BytesLeft (result : SendResult) (at : ℕ) (bytes : List ℕ) : Type 0 where
  pub accepts : result.number ≡ 0
  pub holds : at + length bytes ≤ length result.block
  pub there : part result.block at (length bytes) ≡ bytes

-- what is looked at along the way
pub record TablesGive : Type 0 where
  pub opened : (opens by_tables).number ≡ 0
  -- "2 phase": of the client, before and after its OPEN
  pub phase_before : get_or made_client 2 0 ≡ fresh
  pub phase_after : get_or (opens by_tables).block 2 0 ≡ opening
  pub open_taken : (hears_open by_tables).number ≡ 0
  pub open_heard : (slots_in (hears_open by_tables).slots).message ≡ type_of Open
  -- "4-5 n", after an offer of one and of two
  pub one_offered : BytesLeft (offers 1 by_tables) 4 (0 ∷ 1 ∷ [])
  pub two_offered : BytesLeft (offers 2 by_tables) 4 (0 ∷ 2 ∷ [])
  -- the offer stands at the server and at the client, and the server hears that it is agreed to
  pub offering : (load_of (offers 1 by_tables).block).phase ≡ offer
  pub offer_heard : (load_of (hears_offer by_tables).block).phase ≡ offer
  pub phase_offering : get_or (offers 1 by_tables).block 2 0 ≡ offer
  pub phase_agreed : get_or (hears_agreed by_tables).block 2 0 ≡ batch
  -- "3 W", after a NOOP that does not ask and after one that does
  pub none_awaited : BytesLeft (sends_noop false by_tables) 3 (0 ∷ [])
  pub one_awaited : BytesLeft (sends_noop true by_tables) 3 (1 ∷ [])
  -- "the reply is the control frame with flags 2 for 1": byte 11 of the message and of the reply
  pub flags_sent : get_or (put_at output 0 (message (sends_noop true by_tables))) 11 0 ≡ ack_request
  pub flags_replied : get_or (hears_noop by_tables).out 11 0 ≡ ack_reply

pub tables_give : TablesGive
unfolding computing stored kept_after kept_by heard_slots by_tables
tables_give =
    record {
      opened = refl;
      phase_before = refl;
      phase_after = refl;
      open_taken = refl;
      open_heard = refl;
      one_offered = record { accepts = refl; holds = omega arith; there = refl };
      two_offered = record { accepts = refl; holds = omega arith; there = refl };
      offering = refl;
      offer_heard = refl;
      phase_offering = refl;
      phase_agreed = refl;
      none_awaited = record { accepts = refl; holds = omega arith; there = refl };
      one_awaited = record { accepts = refl; holds = omega arith; there = refl };
      flags_sent = refl;
      flags_replied = refl;
    }
