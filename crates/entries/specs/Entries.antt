-- Demand 3 for the C entries: two 64-byte blocks, each changed only by `fbdp_make_client`, `fbdp_make_server`, the sends and `fbdp_receive`, with
-- any outputs. What is queued are the bytes that an entry wrote to its output, and what is told is read off the numbers that it gave.
use Rattle.std.specs.Prelude.{ℕ, ◌+◌, ◌<◌, ◌≡◌, Result, List, [], ◌∷◌, cond, true, get_or, length, take, eqb}
use Rattle.bytes_be.specs.Part.{part_at}
use Rattle.open.specs.Offer.{Offer}
use Rattle.endpoint.specs.declared.BadMaking.{BadMaking}
use Rattle.endpoint.specs.declared.Endpoint.{Endpoint}
use Rattle.endpoint.specs.Record.{made_of}
use Rattle.endpoint.specs.Block.{is_good, load_of}
use Rattle.receiving.specs.Numbers.{Received}
use Rattle.receiving.specs.Receiving.{answer_number, replied}
use Rattle.sending.specs.Calls.{Missing, Given, Call, written}
use Rattle.sending.specs.Sending.{Sent, left_by}
use Rattle.machine.specs.Good.{Fits}
use Rattle.machine.specs.Bodies.{tells_body}
use Rattle.machine.specs.Programs.{Making, fresh_by, Told, MakeOutcome, SendOutcome, ReceiveOutcome, Program}
use Rattle.fbdp.specs.Blocks.{MakeAnswer, SendOnBlock, ReceiveOnBlock, kept_after, kept_by, made_in, make_number, received_on, reply_length, sent_on}
use Rattle.fbdp.specs.Slots.{Slots, answer_slots, in_order, slots_in}
use Rattle.session.specs.World.{End, Going, asked_for, World, side}
use Rattle.session.specs.Demand.{View, prompt_ledger, Fresh, Holds, DemandOf}

-- ---- the entries

-- the number, how many bytes were written, and the block and the output afterwards
pub record SendResult : Type 0 where
  pub number : ℕ
  pub count : ℕ
  pub block : List ℕ
  pub out : List ℕ

-- the number, the slots, and the block and the output afterwards
pub record ReceiveResult : Type 0 where
  pub number : ℕ
  pub slots : List ℕ
  pub block : List ℕ
  pub out : List ℕ

-- a making on a block; a call on a block and an output; a message with an offer, on a block and an output
pub record Entries : Type 0 where
  pub makes : Making → List ℕ → MakeOutcome (List ℕ)
  pub sends : Call → List ℕ → List ℕ → SendResult
  pub receives : List ℕ → Offer → List ℕ → List ℕ → ReceiveResult

-- whatever is called, with arguments of their types, the result meets the contract of the entry. Blocks, messages and outputs are any lists of numbers,
-- as in the contracts: an entry is known on bytes alone, and on other lists it is taken to do as `by_tables`.
pub record Meets (entries : Entries) : Type 0 where
  pub making : (making : Making) (block : List ℕ)
      → MakeAnswer (fresh_by making) block (entries.makes making block).number (entries.makes making block).next
  pub calls : (call : Call) → Fits call → (block out : List ℕ)
      → SendOnBlock call block out (entries.sends call block out).number (entries.sends call block out).count
      (entries.sends call block out).block (entries.sends call block out).out
  pub messages : (s : List ℕ) (pipe : Offer) (block out : List ℕ)
      → ReceiveOnBlock s pipe block out (entries.receives s pipe block out).number
      (entries.receives s pipe block out).slots (entries.receives s pipe block out).block
      (entries.receives s pipe block out).out

-- what the tables make of a making, a call and a message
abbrev pub make_result : Result Endpoint BadMaking → List ℕ → MakeOutcome (List ℕ)
make_result made block = record { number = make_number made block; next = made_in made block }

abbrev pub send_result : Sent → Call → List ℕ → List ℕ → SendResult
send_result sent call block out =
    record {
      number = sent.number;
      count = sent.written;
      block = kept_after sent block;
      out = left_by sent (written (load_of block) call) out;
    }

abbrev pub receive_result : Received → List ℕ → List ℕ → ReceiveResult
receive_result received block out =
    record {
      number = answer_number received.answer;
      slots = in_order (answer_slots received.answer (reply_length received.reply));
      block = kept_by received block;
      out = replied received.reply out;
    }

-- the entries that the tables are
unfoldable pub by_tables : Entries
by_tables =
    record {
      makes = λ making block. make_result (made_of (fresh_by making)) block;
      sends = λ call block out. send_result (sent_on block call (length out)) call block out;
      receives = λ s pipe block out. receive_result (received_on block s pipe (length out)) block out;
    }

-- they meet the contracts
abbrev pub TablesMeet : Type 0
TablesMeet = Meets by_tables

-- ---- what a host is told

-- of what was heard
abbrev pub told_by : List ℕ → Slots → Told
told_by s slots =
    record {
      message = slots.message;
      flags = slots.flags;
      type-data = slots.type-data;
      body = cond (tells_body slots.message slots.frames) (Given (part_at s slots.carries.body)) Missing;
    }

-- and of a reply, which stands at the start of the output
abbrev pub replies_by : Slots → List ℕ → List (List ℕ)
replies_by slots out = cond (eqb slots.reply 0) [] (take slots.reply out ∷ [])

abbrev pub send_told : SendResult → SendOutcome (List ℕ)
send_told result = record { number = result.number; bytes = take result.count result.out; next = result.block }

abbrev pub receive_told : List ℕ → ReceiveResult → ReceiveOutcome (List ℕ)
receive_told s result =
    record {
      number = result.number;
      told = told_by s (slots_in result.slots);
      replied = replies_by (slots_in result.slots) result.out;
      next = result.block;
    }

-- the program that the entries are
abbrev pub on_blocks : Entries → Program (List ℕ) (List ℕ)
on_blocks entries =
    record {
      room = length;
      make = λ block making. entries.makes making block;
      send = λ block call out. send_told (entries.sends call block out);
      receive = λ block m pipe out. receive_told m.bytes (entries.receives m.bytes pipe block out);
    }

abbrev pub in_blocks : View (List ℕ)
in_blocks = record { endpoint = load_of; ledger = λ block. prompt_ledger (load_of block) }

-- a block that was made holds a fresh end
abbrev pub MadeAreFresh : Type 0
MadeAreFresh =
    (making : Making) (memory block : List ℕ) → MakeAnswer (fresh_by making) memory 0 block → Fresh in_blocks making block

-- demand 3, over any entries that meet their contracts
abbrev pub DemandOnBlocks : Type 0
DemandOnBlocks = (entries : Entries) → Meets entries → DemandOf (on_blocks entries) in_blocks

-- C-14: "true after every send, receive and close": every send and every receive leaves a good block good, whatever it answers, and byte 6 of a good
-- block is its count (`endpoint/specs/Round: ByteSixCounts`)
abbrev pub GoodBlocksStayGood : Type 0
GoodBlocksStayGood =
    (block : List ℕ) → ((i : ℕ) → get_or block i 0 < 256) → is_good block ≡ true
    → ((call : Call) → Fits call → (out : List ℕ) (number count : ℕ) (block' out' : List ℕ)
    → SendOnBlock call block out number count block' out' → is_good block' ≡ true)
    × ((s : List ℕ) → ((i : ℕ) → get_or s i 0 < 256) → (pipe : Offer) (out : List ℕ) (number : ℕ) (slots block' out' : List ℕ)
    → ReceiveOnBlock s pipe block out number slots block' out' → is_good block' ≡ true)

-- wherever demand 3 holds, byte 6 of an end that has not closed is the number of DATA that it sent with an ask less those confirmed
abbrev pub ByteSixTells : Type 0
ByteSixTells =
    (p : Program (List ℕ) (List ℕ)) (w : World (List ℕ)) → Holds p in_blocks w → (end : End) → (side w end).past.ending ≡ Going
    → length (asked_for (side w end).past.sent) ≡ length (side w end).past.confirmations_heard + get_or (side w end).self 6 0
